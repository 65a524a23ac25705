-- What holds of directories, in words of a map from names to numbers.
use Rattle.std.specs.Prelude.{◌≡◌, ◌<◌, ℕ, if◌then◌else◌, List, length, bytes_eq, Some, None}
use Rattle.vol_numbers.specs.declared.runs.Page.{Page}
use Rattle.block_format.specs.Slot.{SlotFits}
use Rattle.block_format.specs.declared.slot.Slot.{Slot}
use Rattle.block_format.specs.declared.slot.Slot.TheVariants.{Entry}
use Rattle.dir_slots.specs.Slots.{IsDirectory, number_in, slot_of, first_unused, with_slot, without_slot}
use Rattle.dir_slots.specs.Pages.{SpellsDirectory}

-- An entry of a new name in the least unused slot gives a directory in which that name has the number, and each other name what it had.
pub record PutsName (slots : List Slot) (number : ℕ) (name : List ℕ) (new : List Slot) : Type 0 where
  pub directory : IsDirectory new
  pub numbers : (other : List ℕ) → number_in new other ≡ (if bytes_eq name other then Some number else number_in slots other)

abbrev pub NamesArePut : Type 0
NamesArePut = (slots : List Slot) (number : ℕ) (name : List ℕ) → IsDirectory slots → slot_of slots name ≡ None → first_unused slots < 65534 → SlotFits (Entry number name)
    → PutsName slots number name (with_slot slots (first_unused slots) (Entry number name))

-- Without the slot of a name, that name has no number, and each other name has what it had.
pub record RemovesName (slots : List Slot) (name : List ℕ) (new : List Slot) : Type 0 where
  pub directory : IsDirectory new
  pub numbers : (other : List ℕ) → number_in new other ≡ (if bytes_eq name other then None else number_in slots other)

abbrev pub NamesAreRemoved : Type 0
NamesAreRemoved = (slots : List Slot) (name : List ℕ) → IsDirectory slots → RemovesName slots name (without_slot slots (slot_of slots name))

-- blocks spell one directory of a width
abbrev pub OneDirectory : Type 0
OneDirectory = (pages : List Page) (slots others : List Slot) → SpellsDirectory pages slots → SpellsDirectory pages others → length slots ≡ length others → slots ≡ others
