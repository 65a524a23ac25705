-- A page of a block among pages.
use Rattle.std.proofs.Common.{◌≡◌, ℕ, zero, suc, ◌+◌, ◌<◌, Bool, true, false, List, [], ◌∷◌, length, take, get_or, subst, arith}
use Rattle.std.specs.Prelude.{◌||◌, nat_eq}
use Rattle.std.proofs.lemmas.Bool.{eqb-true}
use Rattle.vol_numbers.specs.declared.runs.Page.{Page}
use Rattle.block_tree.specs.Notes.{page_blocks}
use Rattle.place_words.specs.Different.{is_among}

not_here : (a b : ℕ) → (a ≡ b → ⊥) → nat_eq a b ≡ false
not_here a b apart = by (nat_eq a b) refl_at
  where
    refl_at : nat_eq a b ≡ nat_eq a b
    refl_at = λ i. nat_eq a b

    by : (t : Bool) → nat_eq a b ≡ t → nat_eq a b ≡ false
    by true is = absurd (apart (eqb-true a b is))
    by false is = is

-- none of one more page is the block's
among_one : (pages : List Page) (k : ℕ) (d : Page) (at : ℕ) → k < length pages → is_among (page_blocks (take k pages)) at ≡ false → ((get_or pages k d).at ≡ at → ⊥)
    → is_among (page_blocks (take (suc k) pages)) at ≡ false
among_one [] k d at lt none apart = absurd (omega (arith, lt))
among_one (q ∷ qs) zero d at lt none apart = by (nat_eq q.at at) (not_here q.at at apart)
  where
    by : (t : Bool) → t ≡ false → (t || false) ≡ false
    by true is = cc
    by false is = is
among_one (q ∷ qs) (suc k) d at lt none apart = by (nat_eq q.at at) none (λ rest. among_one qs k d at (omega (arith, lt)) rest apart)
  where
    by : (t : Bool) → (t || is_among (page_blocks (take k qs)) at) ≡ false → (is_among (page_blocks (take k qs)) at ≡ false → is_among (page_blocks (take (suc k) qs)) at ≡ false)
        → (t || is_among (page_blocks (take (suc k) qs)) at) ≡ false
    by true none more = cc
    by false none more = more none

pub among_more : (pages : List Page) (k : ℕ) (d : Page) (at : ℕ) → k < length pages → is_among (page_blocks (take k pages)) at ≡ false → ((get_or pages k d).at ≡ at → ⊥)
    → is_among (page_blocks (take (k + 1) pages)) at ≡ false
among_more pages k d at lt none apart =
    let next : suc k ≡ k + 1 = omega arith in
    subst (λ (n : ℕ). is_among (page_blocks (take n pages)) at ≡ false) next (among_one pages k d at lt none apart)
