use Rattle.std.proofs.Common.{arith}
use Rattle.block_tree.proofs.RoomLaws.{few_leaves}
use Rattle.map_tests.proofs.steps.plan.Goals as goal

pub rewrite-requires-clause-free : goal.rewrite-requires-clause-free
rewrite-requires-clause-free g c = omega (arith, few_leaves c.args.changes.now)
