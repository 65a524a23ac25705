use Rattle.std.proofs.Common.{◌<◌, All}
use Rattle.point_tests.proofs.acts.touched_of.Given as goal

abbrev pub invariant-loop-row : goal.invariant-loop-row
invariant-loop-row l = All (λ t. t.place < 1048576) l.list.items
