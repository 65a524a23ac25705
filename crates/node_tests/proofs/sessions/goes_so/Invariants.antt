use Rattle.node_tests.specs.Sound.{IsSound}
use Rattle.node_tests.proofs.sessions.goes_so.Given as goal

abbrev pub invariant-loop-act : goal.invariant-loop-act
invariant-loop-act l = IsSound l.table
