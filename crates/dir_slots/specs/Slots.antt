-- A directory is the list of its slots, as many as it is wide.
use Rattle.std.specs.Prelude.{◌≡◌, ◌≤◌, ℕ, ◌+◌, Bool, true, false, if◌then◌else◌, List, [], ◌∷◌, ◌++◌, length, nat_lt, slice_index_or, slice_set, bytes_eq, Option, Some, None}
use Rattle.std.specs.Option.{option_map}
use Rattle.block_format.specs.Slot.{SlotFits}
use Rattle.block_format.specs.declared.slot.Slot.{Slot}
use Rattle.block_format.specs.declared.slot.Slot.TheVariants.{Unused, Entry}

-- what a slot holds: no entry from the width on
abbrev pub slot_at : List Slot → ℕ → Slot
slot_at slots i = slice_index_or slots i Unused

abbrev pub is_used : Slot → Bool
is_used Unused = false
is_used (Entry number name) = true

-- the name of an entry, and none of an unused slot
abbrev pub name_of : Slot → List ℕ
name_of Unused = []
name_of (Entry number name) = name

-- the number of the entry of this name
abbrev pub number_in : List Slot → List ℕ → Option ℕ
number_in [] name = None
number_in (Unused ∷ rest) name = number_in rest name
number_in (Entry number other ∷ rest) name = if bytes_eq other name then Some number else number_in rest name

-- the slot of the entry of this name
abbrev pub slot_of : List Slot → List ℕ → Option ℕ
slot_of [] name = None
slot_of (Unused ∷ rest) name = option_map (λ (i : ℕ). i + 1) (slot_of rest name)
slot_of (Entry number other ∷ rest) name = if bytes_eq other name then Some 0 else option_map (λ (i : ℕ). i + 1) (slot_of rest name)

-- the least unused slot, which is the width where each slot is used
abbrev pub first_unused : List Slot → ℕ
first_unused [] = 0
first_unused (Unused ∷ rest) = 0
first_unused (Entry number name ∷ rest) = first_unused rest + 1

-- with this in a slot; in place of the width there is one slot more
abbrev pub with_slot : List Slot → ℕ → Slot → List Slot
with_slot slots i slot = if nat_lt i (length slots) then slice_set slots i slot else slots ++ slot ∷ []

-- with the slot unused, where there is one
abbrev pub without_slot : List Slot → Option ℕ → List Slot
without_slot slots None = slots
without_slot slots (Some i) = slice_set slots i Unused

-- the slot of a name has another name now, under the number that it had
abbrev pub ReplacesName : List Slot → ℕ → List ℕ → List ℕ → List Slot → Type 0
ReplacesName slots i from to new = (number : ℕ) × (number_in slots from ≡ Some number) × (new ≡ with_slot (without_slot slots (Some i)) i (Entry number to))

-- no two entries have one name
abbrev pub HasNamesOnce : List Slot → Type 0
HasNamesOnce slots = (i j : ℕ) → is_used (slot_at slots i) ≡ true → is_used (slot_at slots j) ≡ true → name_of (slot_at slots i) ≡ name_of (slot_at slots j) → i ≡ j

-- At most 65,534 slots, each unused or with a node's number and a valid name, and no name twice.
pub record IsDirectory (slots : List Slot) : Type 0 where
  pub width : length slots ≤ 65534
  pub fits : (i : ℕ) → SlotFits (slot_at slots i)
  pub names : HasNamesOnce slots
