-- The blocks that hold the bytes are gathered one by one.
use Rattle.std.proofs.Common.{◌≡◌, ℕ, zero, suc, ◌+◌, ◌<◌, Bool, true, false, List, [], ◌∷◌, length, drop, slice_index_or, refl, sym, subst, ◌∙◌, arith, add-one}
use Rattle.std.proofs.Math.Seq.{drop-cons}
use Rattle.std.specs.Prelude.{◌&&◌, ◌||◌, nat_eq}
use Rattle.std.proofs.lemmas.Bool.Decides.{nat_tests}
use Rattle.place_words.specs.Different.{is_among}
use Rattle.content_model.specs.Kin.{included}
use Rattle.content_model.proofs.Kin.{included_among}

pub among_at : (ns : List ℕ) (i d : ℕ) → i < length ns → is_among ns (slice_index_or ns i d) ≡ true
among_at [] i d less = absurd (omega arith)
among_at (n ∷ ns) zero d less = let same : nat_eq n n ≡ true = grind (arith, nat_tests) in rw same refl
among_at (n ∷ ns) (suc i) d less = by (nat_eq n (slice_index_or ns i d)) (among_at ns i d (omega arith))
  where
    by : (t : Bool) → is_among ns (slice_index_or ns i d) ≡ true → (t || is_among ns (slice_index_or ns i d)) ≡ true
    by true more = refl
    by false more = more

-- what is still to come, with the next one in front
pub next_first : (ns : List ℕ) (i d : ℕ) → i < length ns → drop i ns ≡ (slice_index_or ns i d ∷ drop (i + 1) ns)
next_first ns i d less = rw add-one (drop-cons ns i d less)

module _ (test : ℕ → Bool) (out rest : List ℕ) (x at : ℕ) (all : Bool) (so_far : (is_among out at || ((nat_eq x at || is_among rest at) && test at)) ≡ all) where
  pub one_more : test x ≡ true → (is_among (included x out) at || (is_among rest at && test at)) ≡ all
  one_more holds = rw (included_among x out at) (by (nat_eq x at) refl (is_among out at) refl (is_among rest at) refl so_far)
    where
      by : (t : Bool) → nat_eq x at ≡ t → (u : Bool) → is_among out at ≡ u → (v : Bool) → is_among rest at ≡ v → (u || ((t || v) && test at)) ≡ all → ((t || u) || (v && test at)) ≡ all
      by true is true among v later before = before
      by true is false among v later before =
          let here : x ≡ at = grind (arith, nat_tests) in
          let holds_at = subst (λ (n : ℕ). test n ≡ true) here holds in
          sym holds_at ∙ before
      by false is true among v later before = before
      by false is false among v later before = before

  pub not_one : test x ≡ false → (is_among out at || (is_among rest at && test at)) ≡ all
  not_one fails = by (nat_eq x at) refl (is_among out at) (is_among rest at) so_far
    where
      by : (t : Bool) → nat_eq x at ≡ t → (u v : Bool) → (u || ((t || v) && test at)) ≡ all → (u || (v && test at)) ≡ all
      by true is true v before = before
      by true is false true before = before
      by true is false false before =
          let here : x ≡ at = grind (arith, nat_tests) in
          let fails_at = subst (λ (n : ℕ). test n ≡ false) here fails in
          sym fails_at ∙ before
      by false is u v before = before

-- each is one of those that may be
pub included_in : (out ns : List ℕ) (x at : ℕ) → is_among ns x ≡ true → (is_among out at ≡ true → is_among ns at ≡ true) → is_among (included x out) at ≡ true → is_among ns at ≡ true
included_in out ns x at own before e = by (nat_eq x at) refl (sym (included_among x out at) ∙ e)
  where
    by : (t : Bool) → nat_eq x at ≡ t → (t || is_among out at) ≡ true → is_among ns at ≡ true
    by true is e = let here : x ≡ at = grind (arith, nat_tests) in subst (λ (n : ℕ). is_among ns n ≡ true) here own
    by false is e = before e
