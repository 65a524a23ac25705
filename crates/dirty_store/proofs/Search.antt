-- Entries in order: where a spot is among them, or would be.
use Rattle.std.proofs.Common.{◌≡◌, ◌<◌, ◌≤◌, ℕ, zero, suc, true, false, cond, [], ◌∷◌, length, refl, ap, ◌∙◌, get_or, arith}
use Rattle.std.specs.Ordering.{is_lt, is_gt, ordering_reverse}
use Rattle.std.specs.declared.cmp.Ordering.{Ordering}
use Rattle.std.specs.declared.cmp.Ordering.TheVariants.{Less, Equal, Greater}
use Rattle.std.specs.FinMap.{is_sorted}
use Rattle.std.specs.FinMap.Entries.{below_all}
use Rattle.std.specs.List.Sorted.{IsPartitionedBy}
use Rattle.volume_model.specs.Places.{Spot, spot_cmp}
use Rattle.volume_model.proofs.Order.{first_of, second_of, spot_total}
use Rattle.dirty_store.specs.Entries.{Entries}
use Rattle.dirty_store.specs.Inside.{count_before}

pub less_of : (o : Ordering) → is_lt o ≡ true → o ≡ Less
less_of Less e = refl
less_of Equal e = cc
less_of Greater e = cc

pub greater_of : (o : Ordering) → is_gt o ≡ true → o ≡ Greater
greater_of Less e = cc
greater_of Equal e = cc
greater_of Greater e = refl

pub greater_less : (a b : Spot) → spot_cmp a b ≡ Greater → spot_cmp b a ≡ Less
greater_less a b e = spot_total.antisymm b a ∙ ap ordering_reverse e

pub less_greater : (a b : Spot) → spot_cmp a b ≡ Less → spot_cmp b a ≡ Greater
less_greater a b e = spot_total.antisymm b a ∙ ap ordering_reverse e

-- what is behind a spot that is behind another is behind that one
pub behind : (spot a b : Spot) → is_lt (spot_cmp a b) ≡ true → is_gt (spot_cmp spot b) ≡ true → is_gt (spot_cmp spot a) ≡ true
behind spot a b less greater = ap is_gt (less_greater a spot (spot_total.trans a b spot (less_of _ less) (greater_less spot b (greater_of _ greater))))

module _ {T : Type 0} where
  pub below_at : (spot : Spot) (es : Entries T) (k : ℕ) (d : Spot × T) → below_all spot_cmp spot es ≡ true → k < length es → is_lt (spot_cmp spot (get_or es k d).0) ≡ true
  below_at spot [] k d below lt = absurd (omega arith)
  below_at spot (e ∷ es) zero d below lt = first_of _ _ below
  below_at spot (e ∷ es) (suc k) d below lt = below_at spot es k d (second_of _ _ below) (omega arith)

  pub are_parted : (spot : Spot) (es : Entries T) → is_sorted spot_cmp es ≡ true → IsPartitionedBy (λ e. is_gt (spot_cmp spot e.0)) es
  are_parted spot [] sorted i j d le lt after = absurd (omega arith)
  are_parted spot (e ∷ es) sorted zero zero d le lt after = after
  are_parted spot (e ∷ es) sorted zero (suc j) d le lt after = behind spot e.0 (get_or es j d).0 (below_at e.0 es j d (first_of _ _ sorted) (omega arith)) after
  are_parted spot (e ∷ es) sorted (suc i) zero d le lt after = absurd (omega arith)
  are_parted spot (e ∷ es) sorted (suc i) (suc j) d le lt after = are_parted spot es (second_of _ _ sorted) i j d (omega arith) (omega arith) after

  pub count_is : (spot : Spot) (es : Entries T) (i : ℕ) → i ≤ length es
      → ((k : ℕ) (d : Spot × T) → k < i → is_gt (spot_cmp spot (get_or es k d).0) ≡ true)
      → ((k : ℕ) (d : Spot × T) → i ≤ k → k < length es → is_gt (spot_cmp spot (get_or es k d).0) ≡ false)
      → count_before spot es ≡ i
  count_is spot [] zero le pass fail = refl
  count_is spot [] (suc i) le pass fail = absurd (omega arith)
  count_is spot (e ∷ es) zero le pass fail = ap (λ b. cond b (suc (count_before spot es)) 0) (fail 0 e (omega arith) (omega arith))
  count_is spot (e ∷ es) (suc i) le pass fail =
      ap (λ b. cond b (suc (count_before spot es)) 0) (pass 0 e (omega arith))
      ∙ ap suc (count_is spot es i (omega arith) (λ k d lt. pass (suc k) d (omega arith)) (λ k d le lt. fail (suc k) d (omega arith) (omega arith)))
