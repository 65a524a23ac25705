use Rattle.std.proofs.Common.{arith, sym}
use Rattle.node_table.proofs.SlotCounts.{count_without}
use Rattle.node_table.proofs.counted.CountedDirectory.remove.Goals as goal

pub overflow_sub-self : goal.overflow_sub-self
overflow_sub-self c = omega (arith, count_without c.self.inside.directory c.args.name.now c.in_ok-slot.slot (sym c.in_ok-slot.ensures), c.self.invariant)
