-- Laws of tests: each passes exactly what the grammar of the crates below says.
use Rattle.std.specs.Prelude.{◌≡◌, ◌↔◌, ℕ, List, true}
use Rattle.vol_numbers.specs.Name.{IsName}
use Rattle.block_format.specs.Slot.{SpellsSlot}
use Rattle.block_format.specs.declared.slot.Slot.{Slot}
use Rattle.image_model.specs.Nodes.{is_slot_spelled}
use Rattle.image_model.specs.Slots.{is_name}

-- The test of names passes exactly the valid ones.
abbrev pub NamesAreTested : Type 0
NamesAreTested = (bytes : List ℕ) → (is_name bytes ≡ true) ↔ IsName bytes

-- The test of slots passes bytes exactly where they are the spelling of the slot, which has a node's number and a valid name.
abbrev pub SlotsAreTested : Type 0
SlotsAreTested = (slot : Slot) (bytes : List ℕ) → (is_slot_spelled slot bytes ≡ true) ↔ SpellsSlot slot bytes
