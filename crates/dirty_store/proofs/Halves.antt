-- A search by halves among entries in order.
use Rattle.std.proofs.Common.{◌≡◌, ◌≤◌, ℕ, zero, suc, true, [], ◌∷◌, length, refl, sym, subst, get_or, arith}
use Rattle.std.specs.Prelude.{Result, Ok, Err, IfOk, IfErr}
use Rattle.std.specs.Ordering.{ordering_index}
use Rattle.std.specs.declared.cmp.Ordering.{Ordering}
use Rattle.std.specs.declared.cmp.Ordering.TheVariants.{Less, Equal, Greater}
use Rattle.std.specs.FinMap.{is_sorted}
use Rattle.std.specs.List.Sorted.{IsNonDecreasingBy, IsBinarySearchResult, IsSearchInRange}
use Rattle.volume_model.specs.Places.{Spot, spot_cmp}
use Rattle.volume_model.proofs.Order.{first_of, second_of, spot_total, spot_tie}
use Rattle.dirty_store.specs.Entries.{Entries}
use Rattle.dirty_store.specs.Inside.{IsPlaceOf, IsGapFor}
use Rattle.dirty_store.proofs.Search.{less_of, less_greater, greater_less, below_at}

at_most : (o : Ordering) → ordering_index o ≤ 2
at_most Less = omega arith
at_most Equal = omega arith
at_most Greater = omega arith

-- what is before another stands no higher to a spot
rise : (spot a b : Spot) → spot_cmp a b ≡ Less → ordering_index (spot_cmp a spot) ≤ ordering_index (spot_cmp b spot)
rise spot a b less = by (spot_cmp b spot) refl
  where
    by : (o : Ordering) → spot_cmp b spot ≡ o → ordering_index (spot_cmp a spot) ≤ ordering_index o
    by Less is = subst (λ (o : Ordering). ordering_index o ≤ 0) (sym (spot_total.trans a b spot less is)) (omega arith)
    by Equal is = subst (λ (o : Ordering). ordering_index o ≤ 1) (sym (subst (λ (s : Spot). spot_cmp a s ≡ Less) (spot_tie b spot is) less)) (omega arith)
    by Greater is = at_most (spot_cmp a spot)

module _ {T : Type 0} where
  rising : (spot : Spot) (es : Entries T) → is_sorted spot_cmp es ≡ true → IsNonDecreasingBy (λ e. ordering_index (spot_cmp e.0 spot)) es
  rising spot [] sorted i j d le lt = absurd (omega arith)
  rising spot (e ∷ es) sorted zero zero d le lt = omega arith
  rising spot (e ∷ es) sorted zero (suc j) d le lt = rise spot e.0 (get_or es j d).0 (less_of _ (below_at e.0 es j d (first_of _ _ sorted) (omega arith)))
  rising spot (e ∷ es) sorted (suc i) zero d le lt = absurd (omega arith)
  rising spot (e ∷ es) sorted (suc i) (suc j) d le lt = rising spot es (second_of _ _ sorted) i j d (omega arith) (omega arith)

  pub place_found : (spot : Spot) (es : Entries T) (r : Result ℕ ℕ) → IsSearchInRange r (length es) → IsBinarySearchResult (λ e. spot_cmp e.0 spot) es r → IfOk r (IsPlaceOf spot es)
  place_found spot es (Ok i) range is = record { within = range; same = λ d. spot_tie _ _ (is d) }
  place_found spot es (Err i) range is = tt

  pub gap_found : (spot : Spot) (es : Entries T) (r : Result ℕ ℕ) → is_sorted spot_cmp es ≡ true → IsSearchInRange r (length es) → IsBinarySearchResult (λ e. spot_cmp e.0 spot) es r → IfErr r (IsGapFor spot es)
  gap_found spot es (Ok i) sorted range is = tt
  gap_found spot es (Err i) sorted range is =
      let point = is (rising spot es sorted) in
      record {
        within = range;
        before = λ k d lt. less_greater (get_or es k d).0 spot (point.0 k d (omega arith) lt);
        behind = λ k d le lt. greater_less (get_or es k d).0 spot (point.1 k d le lt);
      }
