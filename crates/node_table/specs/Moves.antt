-- An entry that gets another name in its directory, in words of private functions alone.
use Rattle.std.specs.Prelude.{◌≡◌, ℕ, List, Some}
use Rattle.block_format.specs.declared.slot.Slot.{Slot}
use Rattle.block_format.specs.declared.slot.Slot.TheVariants.{Entry}
use Rattle.dir_slots.specs.Slots.{first_unused, slot_of, with_slot, without_slot}
use Rattle.node_table.specs.Changes.{IsSet}
use Rattle.node_table.specs.Held.{Nodes, held, slots_of}
use Rattle.node_table.specs.declared.counted.MovedSlots.{MovedSlots}
use Rattle.node_table.specs.declared.held.HeldNode.TheVariants.{Directory}

-- the slot of the one name is free before the other takes the first unused one
pub record MovesName (slots : List Slot) (from : List ℕ) (number : ℕ) (to : List ℕ) (moved : MovedSlots) (new : List Slot) : Type 0 where
  pub left : slot_of slots from ≡ Some moved.left
  pub came : moved.came ≡ first_unused (without_slot slots (Some moved.left))
  pub now : new ≡ with_slot (without_slot slots (Some moved.left)) moved.came (Entry number to)

-- the same in the directory of a number
abbrev pub MovesWithin : Nodes → ℕ → List ℕ → ℕ → List ℕ → MovedSlots → Nodes → Type 0
MovesWithin old parent from number to moved new = (now : List Slot) × MovesName (slots_of (held old parent)) from number to moved now × IsSet old parent (Some (Directory now)) new
