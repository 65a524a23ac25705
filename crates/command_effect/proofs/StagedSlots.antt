-- The slots of a number after a staging, over whatever slots the last point had.
use Rattle.std.proofs.Common.{◌≡◌, ℕ, zero, suc, ◌+◌, ◌<◌, ◌≤◌, Bool, true, false, cond, List, [], ◌∷◌, length, Some, None, inl, inr, refl, sym, ap, ◌∙◌, arith}
use Rattle.std.specs.Prelude.{◌⊎◌, nat_lt, max, Option}
use Rattle.std.specs.FinMap.{find}
use Rattle.std.proofs.lemmas.Bool.Decides.{nat_tests}
use Rattle.std.proofs.lemmas.List.{get_or_past}
use Rattle.block_format.specs.declared.slot.Slot.{Slot}
use Rattle.block_format.specs.declared.slot.Slot.TheVariants.{Unused}
use Rattle.dir_slots.specs.Slots.{slot_at}
use Rattle.dirty_store.specs.Laws.{changed_to}
use Rattle.dirty_store.specs.Overlay.{Overlay, width_of, forgotten, staged}
use Rattle.dirty_store.specs.declared.effect.Effect.{Effect}
use Rattle.dirty_store.proofs.SlotLaws.{changed_is, other_slot}
use Rattle.point_model.specs.Holding.{slot_or, slots_from}
use Rattle.point_model.proofs.SlotsFollow.{SlotsFollow}
use Rattle.point_model.proofs.StagedNodes.{slots_are, found_below, last_found}
use Rattle.volume_model.specs.Done.{is_cut}
use Rattle.volume_model.specs.Places.{spot_cmp}

-- what a slot holds: what is staged, else what is left
abbrev pub slot_over : List Slot → Overlay → ℕ → ℕ → Slot
slot_over left o n k = slot_or (find spot_cmp (n, k) o.slots) (slot_at left k)

abbrev pub width_over : List Slot → Overlay → ℕ → ℕ
width_over left o n = max (length left) (width_of o.slots n)

-- the slots of a number of which these are left
abbrev pub slots_over : List Slot → Overlay → ℕ → List Slot
slots_over left o n = slots_from (slot_over left o n) 0 (width_over left o n)

pub slots_long : (at : ℕ → Slot) (j n : ℕ) → length (slots_from at j n) ≡ n
unfolding slots_from
slots_long at j zero = refl
slots_long at j (suc n) = ap suc (slots_long at (j + 1) n)

slots_at : (at : ℕ → Slot) (j n k : ℕ) → k < n → slot_at (slots_from at j n) k ≡ at (j + k)
unfolding slots_from
slots_at at j zero k lt = absurd (omega (arith, lt))
slots_at at j (suc n) zero lt = let e : j ≡ j + zero = omega arith in ap at e
slots_at at j (suc n) (suc k) lt = let e : j + 1 + k ≡ j + suc k = omega arith in slots_at at (j + 1) n k (omega (arith, lt)) ∙ ap at e

most_left : (a b : ℕ) → a ≤ max a b
most_left a b = omega arith

most_right : (a b : ℕ) → b ≤ max a b
most_right a b = omega arith

-- each slot of the list is the slot of the number, also past the width
pub slot_is : (left : List Slot) (o : Overlay) (n k : ℕ) → slot_at (slots_over left o n) k ≡ slot_over left o n k
slot_is left o n k = by (nat_lt k (width_over left o n)) refl
  where
    none_there : (found : Option Slot) → find spot_cmp (n, k) o.slots ≡ found → width_of o.slots n ≤ k → find spot_cmp (n, k) o.slots ≡ None
    none_there None is le = is
    none_there (Some slot) is le = absurd (omega (arith, le, found_below o.slots n k slot is))

    by : (t : Bool) → nat_lt k (width_over left o n) ≡ t → slot_at (slots_over left o n) k ≡ slot_over left o n k
    by true is =
        let lt : k < width_over left o n = grind (arith, nat_tests) in
        let e : 0 + k ≡ k = omega arith in
        slots_at (slot_over left o n) 0 (width_over left o n) k lt ∙ ap (slot_over left o n) e
    by false is =
        let ge : width_over left o n ≤ k = grind (arith, nat_tests) in
        let none = none_there (find spot_cmp (n, k) o.slots) refl (omega (arith, ge, most_right (length left) (width_of o.slots n))) in
        get_or_past (slots_over left o n) k Unused (omega (arith, ge, slots_long (slot_over left o n) 0 (width_over left o n)))
        ∙ sym (ap (λ s. slot_or s (slot_at left k)) none ∙ get_or_past left k Unused (omega (arith, ge, most_left (length left) (width_of o.slots n))))

-- Where a staging changes the touched slots to those after it, the slots are those.
module _ (left : List Slot) (o : Overlay) (e : Effect) (n : ℕ) (after : List Slot) (touched : ℕ → Bool) (follows : SlotsFollow (slots_over left o n) after touched)
    (changed : (k : ℕ) → changed_to e.slots (n, k) ≡ cond (touched k) (Some (slot_at after k)) None) (kept : (k : ℕ) → is_cut (forgotten e) (n, k) ≡ false) where
  long_before : length (slots_over left o n) ≡ width_over left o n
  long_before = slots_long (slot_over left o n) 0 (width_over left o n)

  -- what is found in a slot after the staging
  find_touched : (k : ℕ) → touched k ≡ true → find spot_cmp (n, k) (staged o e).slots ≡ Some (slot_at after k)
  find_touched k is = changed_is o e (n, k) (slot_at after k) (changed k ∙ ap (λ (t : Bool). cond t (Some (slot_at after k)) None) is)

  find_other : (k : ℕ) → touched k ≡ false → find spot_cmp (n, k) (staged o e).slots ≡ find spot_cmp (n, k) o.slots
  find_other k is = other_slot o e (n, k) (kept k) (changed k ∙ ap (λ (t : Bool). cond t (Some (slot_at after k)) None) is)

  at_now : (k : ℕ) → slot_over left (staged o e) n k ≡ slot_at after k
  at_now k = by (touched k) refl
    where
      by : (t : Bool) → touched k ≡ t → slot_over left (staged o e) n k ≡ slot_at after k
      by true is = ap (λ s. slot_or s (slot_at left k)) (find_touched k is)
      by false is = ap (λ s. slot_or s (slot_at left k)) (find_other k is) ∙ sym (slot_is left o n k) ∙ sym (follows.same k is)

  stays_found : (k : ℕ) (slot : Slot) → find spot_cmp (n, k) o.slots ≡ Some slot → k < width_of (staged o e).slots n
  stays_found k slot is = by (touched k) refl
    where
      by : (t : Bool) → touched k ≡ t → k < width_of (staged o e).slots n
      by true here = found_below (staged o e).slots n k (slot_at after k) (find_touched k here)
      by false here = found_below (staged o e).slots n k slot (find_other k here ∙ is)

  width_grows : width_of o.slots n ≤ width_of (staged o e).slots n
  width_grows = by (width_of o.slots n) refl
    where
      by : (w : ℕ) → width_of o.slots n ≡ w → width_of o.slots n ≤ width_of (staged o e).slots n
      by zero is = omega (arith, is)
      by (suc w) is = let has = last_found o.slots n w is in omega (arith, is, stays_found w has.0 has.1)

  width_within : width_of (staged o e).slots n ≤ length after
  width_within = by (width_of (staged o e).slots n) refl
    where
      below : (w : ℕ) (slot : Slot) → find spot_cmp (n, w) (staged o e).slots ≡ Some slot → (t : Bool) → touched w ≡ t → w < length after
      below w slot is true here = follows.within w here
      below w slot is false here =
          let lt = found_below o.slots n w slot (sym (find_other w here) ∙ is) in
          omega (arith, lt, long_before, most_right (length left) (width_of o.slots n), follows.grows)

      by : (w : ℕ) → width_of (staged o e).slots n ≡ w → width_of (staged o e).slots n ≤ length after
      by zero is = omega (arith, is)
      by (suc w) is =
          let has = last_found (staged o e).slots n w is in
          let lt = below w has.0 has.1 (touched w) refl in
          omega (arith, is, lt)

  width_is : width_over left (staged o e) n ≡ length after
  width_is = equal (length left) (width_of (staged o e).slots n) (length after) (omega (arith, most_left (length left) (width_of o.slots n), long_before, follows.grows)) width_within (by follows.least)
    where
      equal : (a b w : ℕ) → a ≤ w → b ≤ w → w ≤ max a b → max a b ≡ w
      equal a b w first second le = omega (arith, first, second, le)

      grown : (a b w v : ℕ) → v ≡ max a b → w ≡ v → (c : ℕ) → b ≤ c → w ≤ max a c
      grown a b w v was now c le = omega (arith, was, now, le)

      above : (a b k w : ℕ) → k < b → w ≡ suc k → w ≤ max a b
      above a b k w lt is = omega (arith, lt, is)

      by : (length after ≡ length (slots_over left o n)) ⊎ ((k : ℕ) × (touched k ≡ true) × (length after ≡ suc k)) → length after ≤ max (length left) (width_of (staged o e).slots n)
      by (inl same) = grown (length left) (width_of o.slots n) (length after) (width_over left o n) refl (same ∙ long_before) (width_of (staged o e).slots n) width_grows
      by (inr has) = above (length left) (width_of (staged o e).slots n) has.0 (length after) (found_below (staged o e).slots n has.0 (slot_at after has.0) (find_touched has.0 has.1)) has.2

  pub slots_follow : slots_over left (staged o e) n ≡ after
  slots_follow = slots_are (slot_over left (staged o e) n) after 0 (width_over left (staged o e) n) width_is (λ k lt. let place : 0 + k ≡ k = omega arith in ap (slot_over left (staged o e) n) place ∙ at_now k)
