use Rattle.std.proofs.Common.{◌≡◌, take}
use Rattle.std.specs.Prelude.{filter}
use Rattle.dir_slots.specs.Slots.{is_used}
use Rattle.dir_slots.proofs.directory.Directory.entries.Given as goal

abbrev pub invariant-loop-slot : goal.invariant-loop-slot
invariant-loop-slot l = l.entries.items ≡ filter is_used (take l.slot-index l.slot-items)
