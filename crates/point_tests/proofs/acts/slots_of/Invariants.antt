use Rattle.std.proofs.Common.{◌<◌, All}
use Rattle.point_tests.proofs.acts.slots_of.Given as goal

abbrev pub invariant-loop-row : goal.invariant-loop-row
invariant-loop-row l = All (λ c. c.slot < 65534) l.list.items
