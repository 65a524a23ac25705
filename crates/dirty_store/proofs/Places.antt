-- What stands at a spot, by its place among the entries.
use Rattle.std.proofs.Common.{◌≡◌, ℕ, zero, suc, true, false, cond, [], ◌∷◌, refl, sym, ap, subst, ◌∙◌, get_or, arith}
use Rattle.std.specs.Prelude.{not, slice_set, Some, None}
use Rattle.std.specs.List.{insert, remove}
use Rattle.std.specs.Ordering.{is_eq, is_lt}
use Rattle.std.specs.declared.cmp.Ordering.{Ordering}
use Rattle.std.specs.declared.cmp.Ordering.TheVariants.{Less, Equal, Greater}
use Rattle.std.specs.Cmp.{both_ways, tied_itself}
use Rattle.std.specs.FinMap.{find, put, is_sorted}
use Rattle.std.specs.FinMap.Entries.{below_all, by_order}
use Rattle.std.proofs.lemmas.Bool.Decides.{nat_tests}
use Rattle.volume_model.specs.Places.{Spot, spot_cmp, spot_eq}
use Rattle.volume_model.proofs.Order.{first_of, second_of, spot_total, spot_tie}
use Rattle.dirty_store.specs.Entries.{Entries, without}
use Rattle.dirty_store.specs.Inside.{IsPlaceOf, IsGapFor}
use Rattle.dirty_store.proofs.Search.{less_of, less_greater, below_at}

pub equal_of : (o : Ordering) → is_eq o ≡ true → o ≡ Equal
equal_of Less e = cc
equal_of Equal e = refl
equal_of Greater e = cc

same_spot : (a : Spot) → spot_eq a a ≡ true
same_spot a = grind (arith, nat_tests)

pub spot_eq_true : (a b : Spot) → spot_eq a b ≡ true → a ≡ b
spot_eq_true a b e =
    let first : a.0 ≡ b.0 = grind (arith, nat_tests) in
    let second : a.1 ≡ b.1 = grind (arith, nat_tests) in
    λ i. (first i, second i)

-- equal spots are those that tie
pub spot_eq_is : (a b : Spot) → spot_eq a b ≡ is_eq (spot_cmp b a)
spot_eq_is a b = both_ways _ _
    (λ e. subst (λ (s : Spot). is_eq (spot_cmp b s) ≡ true) (sym (spot_eq_true a b e)) (ap is_eq (tied_itself spot_total b)))
    (λ e. subst (λ (s : Spot). spot_eq a s ≡ true) (sym (spot_tie b a (equal_of _ e))) (same_spot a))

module _ {T : Type 0} where
  -- no entry is that of a spot
  abbrev pub IsAbsent : Spot → Entries T → Type 0
  IsAbsent spot [] = Unit {0}
  IsAbsent spot (e ∷ es) = (is_eq (spot_cmp spot e.0) ≡ false) × IsAbsent spot es

  absent_below : (spot : Spot) (es : Entries T) → below_all spot_cmp spot es ≡ true → IsAbsent spot es
  absent_below spot [] below = tt
  absent_below spot (e ∷ es) below = (ap is_eq (less_of _ (first_of _ _ below)), absent_below spot es (second_of _ _ below))

  absent_gap : (spot : Spot) (es : Entries T) (i : ℕ) → IsGapFor spot es i → IsAbsent spot es
  absent_gap spot [] i gap = tt
  absent_gap spot (e ∷ es) zero gap = (
    ap is_eq (gap.behind 0 e (omega arith) (omega arith)),
    absent_gap spot es 0 (record {
      within = omega arith;
      before = λ k d lt. absurd (omega arith);
      behind = λ k d le lt. gap.behind (suc k) d (omega arith) (omega arith);
    }),
  )
  absent_gap spot (e ∷ es) (suc i) gap = (
    ap is_eq (gap.before 0 e (omega arith)),
    absent_gap spot es i (record {
      within = omega (arith, gap.within);
      before = λ k d lt. gap.before (suc k) d (omega arith);
      behind = λ k d le lt. gap.behind (suc k) d (omega arith) (omega arith);
    }),
  )

  find_absent : (spot : Spot) (es : Entries T) → IsAbsent spot es → find spot_cmp spot es ≡ None
  find_absent spot [] h = refl
  find_absent spot (e ∷ es) h = ap (λ b. cond b (Some e.1) (find spot_cmp spot es)) h.0 ∙ find_absent spot es h.1

  without_absent : (spot : Spot) (es : Entries T) → IsAbsent spot es → without spot es ≡ es
  without_absent spot [] h = refl
  without_absent spot (e ∷ es) h =
      ap (λ b. cond (not b) (e ∷ without spot es) (without spot es)) (spot_eq_is e.0 spot ∙ h.0) ∙ ap (λ (r : Entries T). e ∷ r) (without_absent spot es h.1)

  -- ---- at a gap

  pub find_gap : (spot : Spot) (es : Entries T) (i : ℕ) → IsGapFor spot es i → find spot_cmp spot es ≡ None
  find_gap spot es i gap = find_absent spot es (absent_gap spot es i gap)

  pub without_gap : (spot : Spot) (es : Entries T) (i : ℕ) → IsGapFor spot es i → without spot es ≡ es
  without_gap spot es i gap = without_absent spot es (absent_gap spot es i gap)

  put_case : (spot : Spot) (v : T) (e : Spot × T) (es : Entries T) (o : Ordering) → spot_cmp spot e.0 ≡ o
      → put spot_cmp spot v (e ∷ es) ≡ by_order o ((spot, v) ∷ e ∷ es) ((e.0, v) ∷ es) (e ∷ put spot_cmp spot v es)
  put_case spot v e es o is = ap (λ o. by_order o ((spot, v) ∷ e ∷ es) ((e.0, v) ∷ es) (e ∷ put spot_cmp spot v es)) is

  pub put_gap : (spot : Spot) (v : T) (es : Entries T) (i : ℕ) → IsGapFor spot es i → put spot_cmp spot v es ≡ insert es i (spot, v)
  put_gap spot v [] zero gap = refl
  put_gap spot v [] (suc i) gap = let le = gap.within in absurd (omega arith)
  put_gap spot v (e ∷ es) zero gap = put_case spot v e es Less (gap.behind 0 e (omega arith) (omega arith))
  put_gap spot v (e ∷ es) (suc i) gap =
      put_case spot v e es Greater (gap.before 0 e (omega arith)) ∙ ap (λ (r : Entries T). e ∷ r) (put_gap spot v es i (record {
        within = omega (arith, gap.within);
        before = λ k d lt. gap.before (suc k) d (omega arith);
        behind = λ k d le lt. gap.behind (suc k) d (omega arith) (omega arith);
      }))

  -- ---- at a place

  -- the first entry is before that of any later place
  later : (spot : Spot) (e : Spot × T) (es : Entries T) (i : ℕ) → is_sorted spot_cmp (e ∷ es) ≡ true → IsPlaceOf spot (e ∷ es) (suc i) → spot_cmp spot e.0 ≡ Greater
  later spot e es i sorted at =
      let below = below_at e.0 es i e (first_of _ _ sorted) (omega (arith, at.within)) in
      less_greater e.0 spot (less_of _ (subst (λ (s : Spot). is_lt (spot_cmp e.0 s) ≡ true) (at.same e) below))

  place_later : (spot : Spot) (e : Spot × T) (es : Entries T) (i : ℕ) → IsPlaceOf spot (e ∷ es) (suc i) → IsPlaceOf spot es i
  place_later spot e es i at = record { within = omega (arith, at.within); same = at.same }

  tie_here : (spot : Spot) (e : Spot × T) (es : Entries T) → IsPlaceOf spot (e ∷ es) 0 → spot_cmp spot e.0 ≡ Equal
  tie_here spot e es at = subst (λ (s : Spot). spot_cmp spot s ≡ Equal) (sym (at.same e)) (tied_itself spot_total spot)

  pub find_place : (spot : Spot) (es : Entries T) (i : ℕ) (d : Spot × T) → is_sorted spot_cmp es ≡ true → IsPlaceOf spot es i → find spot_cmp spot es ≡ Some (get_or es i d).1
  find_place spot [] i d sorted at = let le = at.within in absurd (omega arith)
  find_place spot (e ∷ es) zero d sorted at = ap (λ o. cond (is_eq o) (Some e.1) (find spot_cmp spot es)) (tie_here spot e es at)
  find_place spot (e ∷ es) (suc i) d sorted at =
      ap (λ o. cond (is_eq o) (Some e.1) (find spot_cmp spot es)) (later spot e es i sorted at) ∙ find_place spot es i d (second_of _ _ sorted) (place_later spot e es i at)

  pub put_place : (spot : Spot) (v : T) (es : Entries T) (i : ℕ) → is_sorted spot_cmp es ≡ true → IsPlaceOf spot es i → put spot_cmp spot v es ≡ slice_set es i (spot, v)
  put_place spot v [] i sorted at = let le = at.within in absurd (omega arith)
  put_place spot v (e ∷ es) zero sorted at = put_case spot v e es Equal (tie_here spot e es at) ∙ ap (λ (s : Spot). (s, v) ∷ es) (at.same e)
  put_place spot v (e ∷ es) (suc i) sorted at =
      put_case spot v e es Greater (later spot e es i sorted at) ∙ ap (λ (r : Entries T). e ∷ r) (put_place spot v es i (second_of _ _ sorted) (place_later spot e es i at))

  pub without_place : (spot : Spot) (es : Entries T) (i : ℕ) → is_sorted spot_cmp es ≡ true → IsPlaceOf spot es i → without spot es ≡ remove es i
  without_place spot [] i sorted at = let le = at.within in absurd (omega arith)
  without_place spot (e ∷ es) zero sorted at =
      ap (λ b. cond (not b) (e ∷ without spot es) (without spot es)) (spot_eq_is e.0 spot ∙ ap is_eq (tie_here spot e es at))
      ∙ without_absent spot es (subst (λ (s : Spot). IsAbsent s es) (at.same e) (absent_below e.0 es (first_of _ _ sorted)))
  without_place spot (e ∷ es) (suc i) sorted at =
      ap (λ b. cond (not b) (e ∷ without spot es) (without spot es)) (spot_eq_is e.0 spot ∙ ap is_eq (later spot e es i sorted at))
      ∙ ap (λ (r : Entries T). e ∷ r) (without_place spot es i (second_of _ _ sorted) (place_later spot e es i at))

  -- ---- where two lists are one

  pub place_in : (spot : Spot) (es fs : Entries T) (i : ℕ) → es ≡ fs → IsPlaceOf spot es i → IsPlaceOf spot fs i
  place_in spot es fs i same at = subst (λ (l : Entries T). IsPlaceOf spot l i) same at

  pub gap_in : (spot : Spot) (es fs : Entries T) (i : ℕ) → es ≡ fs → IsGapFor spot es i → IsGapFor spot fs i
  gap_in spot es fs i same gap = subst (λ (l : Entries T). IsGapFor spot l i) same gap
