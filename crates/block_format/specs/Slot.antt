-- A directory's slot of 256 bytes.
use Rattle.std.specs.Prelude.{◌≡◌, ◌≤◌, ◌+◌, ◌*◌, ◌==◌, if◌then◌else◌, ℕ, List, ◌∷◌, ◌++◌, length, take, drop, replicate, min, slice_index, slice_range}
use Rattle.byteorder.specs.Endian.{little_bytes, little_number}
use Rattle.vol_numbers.specs.Name.{IsName, padded}
use Rattle.block_format.specs.declared.slot.Slot.{Slot}
use Rattle.block_format.specs.declared.slot.Slot.TheVariants.{Unused, Entry}

-- the one spelling of a slot: a number, the length of a name, and the name
abbrev pub slot_bytes : Slot → List ℕ
slot_bytes Unused = replicate 256 0
slot_bytes (Entry number name) = little_bytes 4 number ++ (length name ∷ 0 ∷ padded name)

-- an entry has a node's number and a valid name
abbrev pub SlotFits : Slot → Type 0
SlotFits Unused = Unit {0}
SlotFits (Entry number name) = (1 ≤ number) × (number ≤ 65535) × IsName name

-- what the fields say, in bytes of any shape
unfoldable pub slot_in : List ℕ → Slot
slot_in b = if little_number 4 b == 0 then Unused else Entry (little_number 4 b) (take (min (slice_index b 4) 250) (drop 6 b))

-- The bytes are the spelling of this slot.
pub record SpellsSlot (slot : Slot) (bytes : List ℕ) : Type 0 where
  pub fits : SlotFits slot
  pub spelled : bytes ≡ slot_bytes slot

-- the bytes of the slot k of a block
abbrev pub slot_part : ℕ → List ℕ → List ℕ
slot_part k bytes = slice_range bytes (256 * k) (256 * k + 256)
