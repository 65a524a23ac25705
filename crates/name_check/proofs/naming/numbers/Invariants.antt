use Rattle.std.proofs.Common.{◌≡◌, take}
use Rattle.std.specs.Prelude.{filter_map}
use Rattle.image_model.specs.Nodes.{number_named}
use Rattle.name_check.proofs.naming.numbers.Given as goal

abbrev pub invariant-loop-slot : goal.invariant-loop-slot
invariant-loop-slot l = l.numbers.items ≡ filter_map number_named (take l.slot-index l.slot-items)
