-- A page is unchanged where none of its 16 slots is staged as another.
use Rattle.std.proofs.Common.{◌≡◌, ℕ, zero, suc, ◌+◌, ◌*◌, ◌<◌, ◌≤◌, Bool, true, false, List, refl, sym, ap, ◌∙◌, arith}
use Rattle.std.specs.Prelude.{◌==◌, ◌||◌}
use Rattle.std.specs.FinMap.{find}
use Rattle.std.specs.List.{list_any}
use Rattle.std.proofs.lemmas.Bool.{eqb-true}
use Rattle.std.proofs.lemmas.Bool.Decides.{nat_tests}
use Rattle.block_format.specs.declared.slot.Slot.{Slot}
use Rattle.dir_slots.specs.Slots.{slot_at}
use Rattle.dirty_store.specs.Overlay.{Overlay}
use Rattle.place_words.specs.Different.{span}
use Rattle.point_model.specs.NodePlan.{differs, is_changed_page}
use Rattle.volume_model.specs.Places.{spot_cmp}

any_none : (test : ℕ → Bool) (from n k : ℕ) → list_any test (span from n) ≡ false → from ≤ k → k < from + n → test k ≡ false
any_none test from zero k none le lt = absurd (omega (arith, le, lt))
any_none test from (suc n) k none le lt = by (from == k) refl (λ above. any_none test (from + 1) n k (second_none _ _ none) above (omega (arith, lt)))
  where
    first_none : (a b : Bool) → (a || b) ≡ false → a ≡ false
    first_none true b e = cc
    first_none false b e = refl

    second_none : (a b : Bool) → (a || b) ≡ false → b ≡ false
    second_none true b e = cc
    second_none false b e = e

    by : (t : Bool) → (from == k) ≡ t → (from + 1 ≤ k → test k ≡ false) → test k ≡ false
    by true is more = let e : from ≡ k = eqb-true from k is in ap test (sym e) ∙ first_none _ _ none
    by false is more = let above : from + 1 ≤ k = grind (arith, nat_tests) in more above

none_any : (test : ℕ → Bool) (from n : ℕ) → ((k : ℕ) → k < from + n → test k ≡ false) → list_any test (span from n) ≡ false
none_any test from zero none = refl
none_any test from (suc n) none =
    ap (λ (t : Bool). t || list_any test (span (from + 1) n)) (none from (omega arith)) ∙ none_any test (from + 1) n (λ k lt. none k (omega (arith, lt)))

pub unchanged_slot : (left : List Slot) (o : Overlay) (n place j : ℕ) → is_changed_page left o n place ≡ false → j < 16 → differs (find spot_cmp (n, 16 * place + j) o.slots) (slot_at left (16 * place + j)) ≡ false
unfolding is_changed_page
unchanged_slot left o n place j same less = any_none (λ i. differs (find spot_cmp (n, 16 * place + i) o.slots) (slot_at left (16 * place + i))) 0 16 j same (omega arith) (omega (arith, less))

pub unchanged_page : (left : List Slot) (o : Overlay) (n place : ℕ) → ((j : ℕ) → j < 16 → differs (find spot_cmp (n, 16 * place + j) o.slots) (slot_at left (16 * place + j)) ≡ false) → is_changed_page left o n place ≡ false
unfolding is_changed_page
unchanged_page left o n place same = none_any (λ i. differs (find spot_cmp (n, 16 * place + i) o.slots) (slot_at left (16 * place + i))) 0 16 (λ j lt. same j (omega (arith, lt)))
