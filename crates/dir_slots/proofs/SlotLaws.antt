-- Slots one by one, and the list with another one in a place.
use Rattle.std.proofs.Common.{◌≡◌, ◌<◌, ◌≤◌, ◌⊎◌, inl, inr, ⊎_elim, ℕ, zero, suc, ◌+◌, ◌∙◌, Bool, true, false, cond, List, [], ◌∷◌, ◌++◌, length, refl, sym, ap, subst, arith, get_or, add-one, length-set, length-append}
use Rattle.std.specs.Prelude.{nat_lt, slice_set}
use Rattle.std.proofs.lemmas.Bool.{cases_lt}
use Rattle.std.proofs.lemmas.Bool.Decides.{nat_tests}
use Rattle.std.proofs.lemmas.List.{get_or-set_same, get_or-set_other, get_or_default}
use Rattle.block_format.specs.declared.slot.Slot.{Slot}
use Rattle.block_format.specs.declared.slot.Slot.TheVariants.{Unused, Entry}
use Rattle.dir_slots.specs.Slots.{slot_at, is_used, first_unused, with_slot}

pub used_within : (slots : List Slot) (i : ℕ) → is_used (slot_at slots i) ≡ true → i < length slots
used_within [] i used = let clash : false ≡ true = used in cc
used_within (slot ∷ slots) zero used = omega arith
used_within (slot ∷ slots) (suc i) used = let lt = used_within slots i used in omega (arith, lt)

pub unused_from_width : (slots : List Slot) (i : ℕ) → length slots ≤ i → slot_at slots i ≡ Unused
unused_from_width [] i le = refl
unused_from_width (slot ∷ slots) zero le = absurd (omega arith)
unused_from_width (slot ∷ slots) (suc i) le = unused_from_width slots i (omega arith)

-- what is read at an index
pub read_there : (slots : List Slot) (i : ℕ) (slot : Slot) → slot ≡ get_or slots i slot → i < length slots → slot_at slots i ≡ slot
read_there slots i slot read within = get_or_default slots i Unused slot within ∙ sym read

pub unused_is : (slot : Slot) → is_used slot ≡ false → slot ≡ Unused
unused_is Unused unused = refl
unused_is (Entry number name) unused = let clash : true ≡ false = unused in cc clash

pub not_both : (b : Bool) → b ≡ true → b ≡ false → ⊥
not_both b used unused = let clash : true ≡ false = sym used ∙ unused in cc

-- ---- one slot more

pub push_same : (slots : List Slot) (slot : Slot) → slot_at (slots ++ slot ∷ []) (length slots) ≡ slot
push_same [] slot = refl
push_same (first ∷ slots) slot = push_same slots slot

pub push_other : (slots : List Slot) (slot : Slot) (j : ℕ) → (j ≡ length slots → ⊥) → slot_at (slots ++ slot ∷ []) j ≡ slot_at slots j
push_other [] slot zero ne = absurd (ne refl)
push_other [] slot (suc j) ne = refl
push_other (first ∷ slots) slot zero ne = refl
push_other (first ∷ slots) slot (suc j) ne = push_other slots slot j (λ e. ne (ap suc e))

-- ---- another slot in a place

pub chosen : {X : Type 0} (b : Bool) (x y : X) → b ≡ true → cond b x y ≡ x
chosen b x y e = rw e refl

pub other_chosen : {X : Type 0} (b : Bool) (x y : X) → b ≡ false → cond b x y ≡ y
other_chosen b x y e = rw e refl

below_tests : (i n : ℕ) → i < n → nat_lt i n ≡ true
below_tests i n lt = grind (arith, nat_tests)

not_below_tests : (i n : ℕ) → n ≤ i → nat_lt i n ≡ false
not_below_tests i n le = grind (arith, nat_tests)

pub with_slot-within : (slots : List Slot) (i : ℕ) (slot : Slot) → i < length slots → with_slot slots i slot ≡ slice_set slots i slot
with_slot-within slots i slot lt = chosen (nat_lt i (length slots)) _ _ (below_tests i (length slots) lt)

pub with_slot-end : (slots : List Slot) (i : ℕ) (slot : Slot) → length slots ≤ i → with_slot slots i slot ≡ slots ++ slot ∷ []
with_slot-end slots i slot le = other_chosen (nat_lt i (length slots)) _ _ (not_below_tests i (length slots) le)

pub length-with : (slots : List Slot) (i : ℕ) (slot : Slot) → i ≤ length slots → ((i < length slots) × (length (with_slot slots i slot) ≡ length slots)) ⊎ ((i ≡ length slots) × (length (with_slot slots i slot) ≡ length slots + 1))
length-with slots i slot le =
    ⊎_elim (λ (lt : i < length slots). inl (lt, ap length (with_slot-within slots i slot lt) ∙ length-set slots i slot))
    (λ (ge : length slots ≤ i). inr (omega arith, ap length (with_slot-end slots i slot ge) ∙ length-append slots (slot ∷ [])))
    (cases_lt i (length slots))

pub with_slot-at_most : (slots : List Slot) (i : ℕ) (slot : Slot) → i ≤ length slots → length (with_slot slots i slot) ≤ length slots + 1
with_slot-at_most slots i slot le =
    ⊎_elim (λ (same : (i < length slots) × (length (with_slot slots i slot) ≡ length slots)). omega (arith, same.1))
    (λ (more : (i ≡ length slots) × (length (with_slot slots i slot) ≡ length slots + 1)). omega (arith, more.1))
    (length-with slots i slot le)

-- The lists differ in slot i alone, which is this in the new one.
pub record Differs (old new : List Slot) (i : ℕ) (slot : Slot) : Type 0 where
  pub within : i < length new
  pub wide : length old ≤ length new
  pub here : slot_at new i ≡ slot
  pub others : (j : ℕ) → (j ≡ i → ⊥) → slot_at new j ≡ slot_at old j

pub set_differs : (slots : List Slot) (i : ℕ) (slot : Slot) → i < length slots → Differs slots (slice_set slots i slot) i slot
set_differs slots i slot lt = record {
  within = omega (arith, length-set slots i slot);
  wide = omega (arith, length-set slots i slot);
  here = get_or-set_same slots i slot Unused lt;
  others = λ j ne. get_or-set_other slots i j slot Unused ne;
}

push_differs : (slots : List Slot) (slot : Slot) → Differs slots (slots ++ slot ∷ []) (length slots) slot
push_differs slots slot = record {
  within = omega (arith, length-append slots (slot ∷ []));
  wide = omega (arith, length-append slots (slot ∷ []));
  here = push_same slots slot;
  others = λ j ne. push_other slots slot j ne;
}

pub with_differs : (slots : List Slot) (i : ℕ) (slot : Slot) → i ≤ length slots → Differs slots (with_slot slots i slot) i slot
with_differs slots i slot le =
    ⊎_elim (λ (lt : i < length slots). subst (λ (new : List Slot). Differs slots new i slot) (sym (with_slot-within slots i slot lt)) (set_differs slots i slot lt))
    (λ (ge : length slots ≤ i).
    let e : length slots ≡ i = omega arith in
    subst (λ (new : List Slot). Differs slots new i slot) (sym (with_slot-end slots i slot ge)) (subst (λ (n : ℕ). Differs slots (slots ++ slot ∷ []) n slot) e (push_differs slots slot)))
    (cases_lt i (length slots))

-- ---- the least unused slot

pub first_unused_is : (slots : List Slot) (i : ℕ) → i ≤ length slots → ((j : ℕ) → j < i → is_used (slot_at slots j) ≡ true) → is_used (slot_at slots i) ≡ false → first_unused slots ≡ i
first_unused_is [] zero le before unused = refl
first_unused_is [] (suc i) le before unused = absurd (omega arith)
first_unused_is (Unused ∷ slots) zero le before unused = refl
first_unused_is (Unused ∷ slots) (suc i) le before unused = let clash : false ≡ true = before 0 (omega arith) in cc
first_unused_is (Entry number name ∷ slots) zero le before unused = let clash : true ≡ false = unused in cc
first_unused_is (Entry number name ∷ slots) (suc i) le before unused = omega (arith, first_unused_is slots i (omega arith) (λ j lt. before (suc j) (omega arith)) unused)

pub first_unused-at_most : (slots : List Slot) → first_unused slots ≤ length slots
first_unused-at_most [] = omega arith
first_unused-at_most (Unused ∷ slots) = omega arith
first_unused-at_most (Entry number name ∷ slots) = omega (arith, first_unused-at_most slots)

pub first_unused-unused : (slots : List Slot) → is_used (slot_at slots (first_unused slots)) ≡ false
first_unused-unused [] = refl
first_unused-unused (Unused ∷ slots) = refl
first_unused-unused (Entry number name ∷ slots) = rw add-one (first_unused-unused slots)
