use Rattle.std.proofs.Common.{arith, ap, length}
use Rattle.node_table.proofs.SlotCounts.{count_within}
use Rattle.node_table.proofs.counted.CountedDirectory.new.Goals as goal

pub overflow_cast-entries : goal.overflow_cast-entries
overflow_cast-entries c = omega (arith, count_within c.args.directory, c.width-width.ensures.directory.width, c.len-entries.ensures, ap length (c.in_ok-entries.ensures))
