-- How many entries a directory has.
use Rattle.std.specs.Prelude.{ℕ, List, length, filter}
use Rattle.block_format.specs.declared.slot.Slot.{Slot}
use Rattle.dir_slots.specs.Slots.{is_used}

-- the slots that hold entries
abbrev pub count : List Slot → ℕ
count slots = length (filter is_used slots)
