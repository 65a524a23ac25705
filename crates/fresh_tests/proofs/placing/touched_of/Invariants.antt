use Rattle.std.proofs.Common.{◌<◌, All}
use Rattle.fresh_tests.proofs.placing.touched_of.Given as goal

abbrev pub invariant-loop-place : goal.invariant-loop-place
invariant-loop-place l = All (λ t. t.place < 1048576) l.list.items
