-- How many slots are used.
use Rattle.std.proofs.Common.{◌≡◌, ◌≤◌, ℕ, ◌+◌, suc, true, false, List, [], ◌∷◌, ◌++◌, length, Some, None, refl, sym, ap, ◌∙◌, arith, add-one}
use Rattle.std.specs.Prelude.{Option, nat_lt, slice_set, if◌then◌else◌, max, bytes_eq}
use Rattle.std.specs.Option.{option_map}
use Rattle.std.proofs.lemmas.Bool.Decides.{nat_tests}
use Rattle.block_format.specs.declared.slot.Slot.{Slot}
use Rattle.block_format.specs.declared.slot.Slot.TheVariants.{Unused, Entry}
use Rattle.dir_slots.specs.Slots.{with_slot, without_slot, first_unused, slot_of}
use Rattle.node_table.specs.Counts.{count}

pub count_within : (slots : List Slot) → count slots ≤ length slots
count_within [] = omega arith
count_within (Unused ∷ slots) = omega (arith, count_within slots)
count_within (Entry number name ∷ slots) = omega (arith, count_within slots)

-- the slots before the first unused one are used
pub first_within : (slots : List Slot) → first_unused slots ≤ count slots
first_within [] = omega arith
first_within (Unused ∷ slots) = omega arith
first_within (Entry number name ∷ slots) = omega (arith, first_within slots)

next_test : (i n : ℕ) → nat_lt (i + 1) (suc n) ≡ nat_lt i n
next_test i n = grind (arith, nat_tests)

first_test : (n : ℕ) → nat_lt 0 (suc n) ≡ true
first_test n = grind (arith, nat_tests)

pub with_next : (head : Slot) (slots : List Slot) (i : ℕ) (slot : Slot) → with_slot (head ∷ slots) (i + 1) slot ≡ head ∷ with_slot slots i slot
with_next head slots i slot =
    ap (λ b. if b then slice_set (head ∷ slots) (i + 1) slot else (head ∷ slots) ++ slot ∷ []) (next_test i (length slots))
    ∙ elim (nat_lt i (length slots)) as (λ b. (if b then slice_set (head ∷ slots) (i + 1) slot else (head ∷ slots) ++ slot ∷ []) ≡ head ∷ (if b then slice_set slots i slot else slots ++ slot ∷ [])) [
      | true ↦ rw add-one refl
      | false ↦ refl
    ]

pub with_first : (slots : List Slot) (slot : Slot) → with_slot (Unused ∷ slots) 0 slot ≡ slot ∷ slots
with_first slots slot = ap (λ b. if b then slot ∷ slots else (Unused ∷ slots) ++ slot ∷ []) (first_test (length slots))

-- an entry more in the first unused slot
pub count_with : (slots : List Slot) (number : ℕ) (name : List ℕ) → count (with_slot slots (first_unused slots) (Entry number name)) ≡ count slots + 1
count_with [] number name = refl
count_with (Unused ∷ slots) number name = ap count (with_first slots (Entry number name)) ∙ omega arith
count_with (Entry n other ∷ slots) number name = ap count (with_next (Entry n other) slots (first_unused slots) (Entry number name)) ∙ omega (arith, count_with slots number name)

pub length_with : (slots : List Slot) (number : ℕ) (name : List ℕ) → length (with_slot slots (first_unused slots) (Entry number name)) ≡ max (length slots) (count slots + 1)
length_with [] number name = refl
length_with (Unused ∷ slots) number name = ap length (with_first slots (Entry number name)) ∙ omega (arith, count_within slots)
length_with (Entry n other ∷ slots) number name = ap length (with_next (Entry n other) slots (first_unused slots) (Entry number name)) ∙ omega (arith, length_with slots number name)

-- without the entry of a name
pub none_mapped : (o : Option ℕ) → option_map (λ (i : ℕ). i + 1) o ≡ None → o ≡ None
none_mapped None e = refl
none_mapped (Some i) e = cc

pub some_mapped : (o : Option ℕ) (i : ℕ) → option_map (λ (i : ℕ). i + 1) o ≡ Some i → (j : ℕ) × (o ≡ Some j) × (i ≡ j + 1)
some_mapped None i e = cc
some_mapped (Some j) i e = (j, refl, cc)

pub set_next : (head : Slot) (slots : List Slot) (i : ℕ) → slice_set (head ∷ slots) (i + 1) Unused ≡ head ∷ slice_set slots i Unused
set_next head slots i = rw add-one refl

pub count_without : (slots : List Slot) (name : List ℕ) (i : ℕ) → slot_of slots name ≡ Some i → count (without_slot slots (Some i)) + 1 ≡ count slots
count_without [] name i e = cc
count_without (Unused ∷ slots) name i e =
    let m = some_mapped (slot_of slots name) i e in
    ap (λ k. count (slice_set (Unused ∷ slots) k Unused) + 1) m.2 ∙ ap (λ s. count s + 1) (set_next Unused slots m.0) ∙ count_without slots name m.0 m.1
count_without (Entry number other ∷ slots) name i e =
    elim (bytes_eq other name) as (λ b. (if b then Some 0 else option_map (λ (i : ℕ). i + 1) (slot_of slots name)) ≡ Some i → count (slice_set (Entry number other ∷ slots) i Unused) + 1 ≡ suc (count slots)) [
      | true ↦ λ same. let is : 0 ≡ i = cc in ap (λ k. count (slice_set (Entry number other ∷ slots) k Unused) + 1) (sym is) ∙ omega arith
      | false ↦ λ later.
          let m = some_mapped (slot_of slots name) i later in
          ap (λ k. count (slice_set (Entry number other ∷ slots) k Unused) + 1) m.2 ∙ ap (λ s. count s + 1) (set_next (Entry number other) slots m.0) ∙ omega (arith, count_without slots name m.0 m.1)
    ] e
