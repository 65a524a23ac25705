-- The slots of a directory, with what is staged of it, are a directory's where each staged slot is within the rules.
use Rattle.std.proofs.Common.{◌≡◌, ◌<◌, ◌≤◌, ◌∙◌, ℕ, zero, suc, ◌+◌, Bool, true, false, cond, List, [], ◌∷◌, length, Option, Some, None, refl, sym, ap, subst, arith}
use Rattle.std.specs.Prelude.{bytes_eq, is_some, max, nat_eq, nat_lt}
use Rattle.std.specs.FinMap.{find}
use Rattle.std.specs.Option.{option_map}
use Rattle.std.proofs.lemmas.Bool.Decides.{nat_tests}
use Rattle.std.proofs.lemmas.Slice.Eq.{bytes_eq-Decides}
use Rattle.block_format.specs.Slot.{SlotFits}
use Rattle.block_format.specs.declared.slot.Slot.{Slot}
use Rattle.block_format.specs.declared.slot.Slot.TheVariants.{Unused, Entry}
use Rattle.dir_slots.specs.Slots.{IsDirectory, is_used, name_of, slot_at, slot_of}
use Rattle.dirty_store.specs.Overlay.{Overlay, width_of}
use Rattle.tree_plan.specs.Pages.{slot_with, width_with}
use Rattle.tree_plan.specs.Renewed.{slots_with}
use Rattle.tree_plan.proofs.RenewedLaws.{width_with_is, with_at}
use Rattle.tree_plan.proofs.SlotLaws.{lt_false, lt_true, none_past}
use Rattle.point_model.specs.Holding.{slot_or}
use Rattle.volume_model.specs.Places.{spot_cmp}
use Rattle.point_tests.specs.Within.{IsEntryWithin, IsSlotWithin}

-- ---- the first slot of a name

-- A slot is found by this name, and has it.
record IsFound (slots : List Slot) (name : List ℕ) : Type 0 where
  at : ℕ
  is : slot_of slots name ≡ Some at
  used : is_used (slot_at slots at) ≡ true
  named : name_of (slot_at slots at) ≡ name

first_found : (s : Slot) (slots : List Slot) (name : List ℕ) → slot_of (s ∷ slots) name ≡ Some 0 → is_used s ≡ true → name_of s ≡ name → IsFound (s ∷ slots) name
first_found s slots name is used named = record { at = 0; is = is; used = used; named = named }

later_found : (s : Slot) (slots : List Slot) (name : List ℕ) → slot_of (s ∷ slots) name ≡ option_map (λ (i : ℕ). i + 1) (slot_of slots name) → IsFound slots name → IsFound (s ∷ slots) name
later_found s slots name on there = record {
  at = suc there.at;
  is = on ∙ ap (option_map (λ (i : ℕ). i + 1)) there.is ∙ (let e : there.at + 1 ≡ suc there.at = omega arith in ap Some e);
  used = there.used;
  named = there.named;
}

found : (slots : List Slot) (j : ℕ) (name : List ℕ) → is_used (slot_at slots j) ≡ true → name_of (slot_at slots j) ≡ name → IsFound slots name
found [] j name used named = let clash : false ≡ true = used in cc
found (Unused ∷ slots) zero name used named = let clash : false ≡ true = used in cc
found (Unused ∷ slots) (suc j) name used named = later_found Unused slots name refl (found slots j name used named)
found (Entry n other ∷ slots) j name used named = by (bytes_eq other name) refl (λ k. found slots k name) j used named
  where
    by : (t : Bool) → bytes_eq other name ≡ t → ((k : ℕ) → is_used (slot_at slots k) ≡ true → name_of (slot_at slots k) ≡ name → IsFound slots name) → (j : ℕ) → is_used (slot_at (Entry n other ∷ slots) j) ≡ true → name_of (slot_at (Entry n other ∷ slots) j) ≡ name → IsFound (Entry n other ∷ slots) name
    by true is later j used named = first_found (Entry n other) slots name (ap (λ (t : Bool). cond t (Some 0) (option_map (λ (i : ℕ). i + 1) (slot_of slots name))) is) refl ((bytes_eq-Decides other name).0 is)
    by false is later zero used named = let clash : true ≡ false = sym ((bytes_eq-Decides other name).1 named) ∙ is in cc
    by false is later (suc j) used named =
        later_found (Entry n other) slots name (ap (λ (t : Bool). cond t (Some 0) (option_map (λ (i : ℕ). i + 1) (slot_of slots name))) is) (later j used named)

-- ---- the slots now

pub none_directory : IsDirectory []
none_directory = record { width = omega arith; fits = λ i. tt; names = λ i j used other same. let clash : false ≡ true = used in cc }

most : (a b c : ℕ) → a ≤ c → b ≤ c → max a b ≤ c
most a b c first second = omega (arith, first, second)

same_place : (i j : ℕ) → nat_lt i j ≡ false → nat_lt j i ≡ false → i ≡ j
same_place i j first second = grind (arith, nat_tests)

module _ (left : List Slot) (o : Overlay) (n : ℕ) (was : IsDirectory left) (wide : width_of o.slots n ≤ 65534) (each : (k : ℕ) → k < width_of o.slots n → IsSlotWithin left o n k) where
  within : (k number : ℕ) (name : List ℕ) → find spot_cmp (n, k) o.slots ≡ Some (Entry number name) → IsEntryWithin left o n k number name
  within k number name there = each k (by (nat_lt k (width_of o.slots n)) refl) number name there
    where
      by : (t : Bool) → nat_lt k (width_of o.slots n) ≡ t → k < width_of o.slots n
      by true is = lt_true k (width_of o.slots n) is
      by false is = let never : None ≡ Some (Entry number name) = sym (none_past o.slots n k (lt_false k (width_of o.slots n) is)) ∙ there in cc

  fits_at : (k : ℕ) → SlotFits (slot_with left o n k)
  fits_at k = by (find spot_cmp (n, k) o.slots) refl
    where
      by : (a : Option Slot) → find spot_cmp (n, k) o.slots ≡ a → SlotFits (slot_or a (slot_at left k))
      by None is = was.fits k
      by (Some Unused) is = tt
      by (Some (Entry number name)) is = (within k number name is).fits

  clash : (i j : ℕ) (a : Slot) → find spot_cmp (n, i) o.slots ≡ Some a → find spot_cmp (n, j) o.slots ≡ None → is_used a ≡ true → is_used (slot_at left j) ≡ true → name_of a ≡ name_of (slot_at left j) → ⊥
  clash i j Unused there none used other same = let never : false ≡ true = used in cc
  clash i j (Entry number name) there none used other same =
      let first : IsFound left name = found left j name other (sym same) in
      let at_j : first.at ≡ j = was.names first.at j first.used other (first.named ∙ same) in
      let moved : is_some (find spot_cmp (n, first.at) o.slots) ≡ true = (within i number name there).moved first.at first.is in
      let not_there : is_some (find spot_cmp (n, first.at) o.slots) ≡ false = ap (λ (k : ℕ). is_some (find spot_cmp (n, k) o.slots)) at_j ∙ ap is_some none in
      let never : true ≡ false = sym moved ∙ not_there in
      cc

  below : (i j : ℕ) (a b : Slot) → i < j → find spot_cmp (n, i) o.slots ≡ Some a → find spot_cmp (n, j) o.slots ≡ Some b → is_used a ≡ true → is_used b ≡ true → name_of a ≡ name_of b → ⊥
  below i j a Unused lt first second used other same = let never : false ≡ true = other in cc
  below i j a (Entry number name) lt first second used other same = (within j number name second).apart i a lt first used same

  both : (i j : ℕ) (a b : Slot) → find spot_cmp (n, i) o.slots ≡ Some a → find spot_cmp (n, j) o.slots ≡ Some b → is_used a ≡ true → is_used b ≡ true → name_of a ≡ name_of b → i ≡ j
  both i j a b first second used other same = by (nat_lt i j) (nat_lt j i) refl refl
    where
      by : (t u : Bool) → nat_lt i j ≡ t → nat_lt j i ≡ u → i ≡ j
      by true u is isnt = absurd (below i j a b (lt_true i j is) first second used other same)
      by false true is isnt = absurd (below j i b a (lt_true j i isnt) second first other used (sym same))
      by false false is isnt = same_place i j is isnt

  once : (i j : ℕ) → is_used (slot_with left o n i) ≡ true → is_used (slot_with left o n j) ≡ true → name_of (slot_with left o n i) ≡ name_of (slot_with left o n j) → i ≡ j
  once i j = by (find spot_cmp (n, i) o.slots) (find spot_cmp (n, j) o.slots) refl refl
    where
      by : (a b : Option Slot) → find spot_cmp (n, i) o.slots ≡ a → find spot_cmp (n, j) o.slots ≡ b → is_used (slot_or a (slot_at left i)) ≡ true → is_used (slot_or b (slot_at left j)) ≡ true
          → name_of (slot_or a (slot_at left i)) ≡ name_of (slot_or b (slot_at left j)) → i ≡ j
      by None None first second used other same = was.names i j used other same
      by None (Some b) first second used other same = absurd (clash j i b second first other used (sym same))
      by (Some a) None first second used other same = absurd (clash i j a first second used other same)
      by (Some a) (Some b) first second used other same = both i j a b first second used other same

  pub directory_now : IsDirectory (slots_with left o n)
  directory_now = record {
    width = subst (λ (w : ℕ). w ≤ 65534) (sym (width_with_is left o n)) (most (length left) (width_of o.slots n) 65534 was.width wide);
    fits = λ i. subst SlotFits (sym (with_at left o n i)) (fits_at i);
    names = λ i j used other same.
        once i j (subst (λ (s : Slot). is_used s ≡ true) (with_at left o n i) used) (subst (λ (s : Slot). is_used s ≡ true) (with_at left o n j) other)
        (ap name_of (sym (with_at left o n i)) ∙ same ∙ ap name_of (with_at left o n j));
  }
