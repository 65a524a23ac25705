-- The number and the slot of a name.
use Rattle.std.proofs.Common.{◌≡◌, ◌<◌, ◌⊎◌, inl, inr, ⊎_elim, ℕ, zero, suc, ◌+◌, ◌∙◌, true, false, List, [], ◌∷◌, Option, Some, None, refl, sym, ap, arith}
use Rattle.std.specs.Prelude.{bytes_eq}
use Rattle.std.specs.Option.{option_map}
use Rattle.std.proofs.lemmas.Slice.Eq.{bytes_eq-Decides}
use Rattle.std.proofs.lemmas.Bool.{cases_Bool}
use Rattle.block_format.specs.declared.slot.Slot.{Slot}
use Rattle.block_format.specs.declared.slot.Slot.TheVariants.{Unused, Entry}
use Rattle.dir_slots.specs.Slots.{slot_at, is_used, name_of, number_in, slot_of, HasNamesOnce}
use Rattle.dir_slots.specs.Index.{IsAbsent}
use Rattle.dir_slots.proofs.SlotLaws.{not_both, chosen, other_chosen}

pub same_tests : (a b : List ℕ) → a ≡ b → bytes_eq a b ≡ true
same_tests a b e = (bytes_eq-Decides a b).1 e

pub other_tests : (a b : List ℕ) → (a ≡ b → ⊥) → bytes_eq a b ≡ false
other_tests a b ne = ⊎_elim (λ (yes : bytes_eq a b ≡ true). absurd (ne ((bytes_eq-Decides a b).0 yes))) (λ (no : bytes_eq a b ≡ false). no) (cases_Bool (bytes_eq a b))

-- the slots without the first
next_absent : (slot : Slot) (slots : List Slot) (name : List ℕ) → IsAbsent (slot ∷ slots) name → IsAbsent slots name
next_absent slot slots name absent = λ i used e. absent (suc i) used e

pub number_absent : (slots : List Slot) (name : List ℕ) → IsAbsent slots name → number_in slots name ≡ None
number_absent [] name absent = refl
number_absent (Unused ∷ slots) name absent = number_absent slots name (next_absent Unused slots name absent)
number_absent (Entry number other ∷ slots) name absent =
    other_chosen (bytes_eq other name) _ _ (other_tests other name (λ e. absent 0 refl e)) ∙ number_absent slots name (next_absent (Entry number other) slots name absent)

pub slot_absent : (slots : List Slot) (name : List ℕ) → IsAbsent slots name → slot_of slots name ≡ None
slot_absent [] name absent = refl
slot_absent (Unused ∷ slots) name absent = ap (option_map (λ (i : ℕ). i + 1)) (slot_absent slots name (next_absent Unused slots name absent))
slot_absent (Entry number other ∷ slots) name absent =
    other_chosen (bytes_eq other name) _ _ (other_tests other name (λ e. absent 0 refl e))
    ∙ ap (option_map (λ (i : ℕ). i + 1)) (slot_absent slots name (next_absent (Entry number other) slots name absent))

-- ---- a name that is there

none_before : (slot : Slot) (slots : List Slot) (name : List ℕ) (i : ℕ) → ((j : ℕ) → j < suc i → is_used (slot_at (slot ∷ slots) j) ≡ true → name_of (slot_at (slot ∷ slots) j) ≡ name → ⊥)
    → (j : ℕ) → j < i → is_used (slot_at slots j) ≡ true → name_of (slot_at slots j) ≡ name → ⊥
none_before slot slots name i before = λ j lt used e. before (suc j) (omega arith) used e

name_is : (slot : Slot) (number : ℕ) (name : List ℕ) → slot ≡ Entry number name → name_of slot ≡ name
name_is slot number name e = ap name_of e

pub first_number : (slots : List Slot) (number : ℕ) (name : List ℕ) (i : ℕ) → slot_at slots i ≡ Entry number name
    → ((j : ℕ) → j < i → is_used (slot_at slots j) ≡ true → name_of (slot_at slots j) ≡ name → ⊥) → number_in slots name ≡ Some number
first_number [] number name i there before = let clash : Unused ≡ Entry number name = there in cc clash
first_number (Unused ∷ slots) number name zero there before = let clash : Unused ≡ Entry number name = there in cc clash
first_number (Entry n other ∷ slots) number name zero there before =
    let same : Entry n other ≡ Entry number name = there in
    let numbers : n ≡ number = cc in
    chosen (bytes_eq other name) _ _ (same_tests other name (name_is (Entry n other) number name there)) ∙ ap Some numbers
first_number (Unused ∷ slots) number name (suc i) there before = first_number slots number name i there (none_before Unused slots name i before)
first_number (Entry n other ∷ slots) number name (suc i) there before =
    other_chosen (bytes_eq other name) _ _ (other_tests other name (λ e. before 0 (omega arith) refl e))
    ∙ first_number slots number name i there (none_before (Entry n other) slots name i before)

pub first_slot : (slots : List Slot) (number : ℕ) (name : List ℕ) (i : ℕ) → slot_at slots i ≡ Entry number name
    → ((j : ℕ) → j < i → is_used (slot_at slots j) ≡ true → name_of (slot_at slots j) ≡ name → ⊥) → slot_of slots name ≡ Some i
first_slot [] number name i there before = let clash : Unused ≡ Entry number name = there in cc clash
first_slot (Unused ∷ slots) number name zero there before = let clash : Unused ≡ Entry number name = there in cc clash
first_slot (Entry n other ∷ slots) number name zero there before =
    chosen (bytes_eq other name) _ _ (same_tests other name (name_is (Entry n other) number name there))
first_slot (Unused ∷ slots) number name (suc i) there before =
    ap (option_map (λ (k : ℕ). k + 1)) (first_slot slots number name i there (none_before Unused slots name i before)) ∙ ap Some (omega arith)
first_slot (Entry n other ∷ slots) number name (suc i) there before =
    other_chosen (bytes_eq other name) _ _ (other_tests other name (λ e. before 0 (omega arith) refl e))
    ∙ (ap (option_map (λ (k : ℕ). k + 1)) (first_slot slots number name i there (none_before (Entry n other) slots name i before)) ∙ ap Some (omega arith))

used_entry : (slot : Slot) (number : ℕ) (name : List ℕ) → slot ≡ Entry number name → is_used slot ≡ true
used_entry slot number name e = ap is_used e

only_one : (slots : List Slot) (number : ℕ) (name : List ℕ) (i : ℕ) → HasNamesOnce slots → slot_at slots i ≡ Entry number name
    → (j : ℕ) → j < i → is_used (slot_at slots j) ≡ true → name_of (slot_at slots j) ≡ name → ⊥
only_one slots number name i once there j lt used e =
    let same : j ≡ i = once j i used (used_entry _ number name there) (e ∙ sym (name_is _ number name there)) in omega arith

pub number_found : (slots : List Slot) (number : ℕ) (name : List ℕ) (i : ℕ) → HasNamesOnce slots → slot_at slots i ≡ Entry number name → number_in slots name ≡ Some number
number_found slots number name i once there = first_number slots number name i there (only_one slots number name i once there)

pub slot_found : (slots : List Slot) (number : ℕ) (name : List ℕ) (i : ℕ) → HasNamesOnce slots → slot_at slots i ≡ Entry number name → slot_of slots name ≡ Some i
slot_found slots number name i once there = first_slot slots number name i there (only_one slots number name i once there)

-- ---- which slot has the name

none_mapped : (o : Option ℕ) → option_map (λ (i : ℕ). i + 1) o ≡ None → o ≡ None
none_mapped None e = refl
none_mapped (Some i) e = let clash : Some (i + 1) ≡ None = e in cc clash

pub absent_from : (slots : List Slot) (name : List ℕ) → slot_of slots name ≡ None → IsAbsent slots name
absent_from [] name none i used e = let clash : false ≡ true = used in cc clash
absent_from (Unused ∷ slots) name none zero used e = let clash : false ≡ true = used in cc clash
absent_from (Unused ∷ slots) name none (suc i) used e = absent_from slots name (none_mapped (slot_of slots name) none) i used e
absent_from (Entry number other ∷ slots) name none zero used e =
    let clash : Some 0 ≡ None = sym (chosen (bytes_eq other name) _ _ (same_tests other name e)) ∙ none in cc clash
absent_from (Entry number other ∷ slots) name none (suc i) used e =
    ⊎_elim (λ (yes : bytes_eq other name ≡ true). let clash : Some 0 ≡ None = sym (chosen (bytes_eq other name) _ _ yes) ∙ none in cc clash)
    (λ (no : bytes_eq other name ≡ false). absent_from slots name (none_mapped (slot_of slots name) (sym (other_chosen (bytes_eq other name) _ _ no) ∙ none)) i used e)
    (cases_Bool (bytes_eq other name))

-- a slot has the name, or none has
abbrev pub HasOrNot : List Slot → List ℕ → Type 0
HasOrNot slots name = ((i : ℕ) × (number : ℕ) × (slot_at slots i ≡ Entry number name)) ⊎ IsAbsent slots name

no_more : (slot : Slot) (slots : List Slot) (name : List ℕ) → (is_used slot ≡ true → name_of slot ≡ name → ⊥) → IsAbsent slots name → IsAbsent (slot ∷ slots) name
no_more slot slots name first absent zero used e = first used e
no_more slot slots name first absent (suc i) used e = absent i used e

pub same_or_not : (a b : List ℕ) → (a ≡ b) ⊎ (a ≡ b → ⊥)
same_or_not a b =
    ⊎_elim (λ (yes : bytes_eq a b ≡ true). inl ((bytes_eq-Decides a b).0 yes)) (λ (no : bytes_eq a b ≡ false). inr (λ e. not_both (bytes_eq a b) (same_tests a b e) no)) (cases_Bool (bytes_eq a b))

next_has : (slot : Slot) (slots : List Slot) (name : List ℕ) → (is_used slot ≡ true → name_of slot ≡ name → ⊥) → HasOrNot slots name → HasOrNot (slot ∷ slots) name
next_has slot slots name first (inl (i, number, there)) = inl (suc i, number, there)
next_has slot slots name first (inr absent) = inr (no_more slot slots name first absent)

pub has_or_not : (slots : List Slot) (name : List ℕ) → HasOrNot slots name
has_or_not [] name = inr (λ i used e. not_both false used refl)
has_or_not (Unused ∷ slots) name = next_has Unused slots name (λ used e. not_both false used refl) (has_or_not slots name)
has_or_not (Entry number other ∷ slots) name =
    ⊎_elim (λ (e : other ≡ name). inl (0, number, ap (Entry number) e))
    (λ (ne : other ≡ name → ⊥). next_has (Entry number other) slots name (λ used e. ne e) (has_or_not slots name))
    (same_or_not other name)
