use Rattle.std.proofs.Common.{◌<◌, All}
use Rattle.point_tests.proofs.acts.push_touched.Given as goal

abbrev pub invariant-loop-k : goal.invariant-loop-k
invariant-loop-k l = All (λ t. t.place < 1048576) l.list.items
