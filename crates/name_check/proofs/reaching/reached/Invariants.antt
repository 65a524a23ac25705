use Rattle.name_check.proofs.ReachLaws.{IsThrough}
use Rattle.name_check.proofs.reaching.reached.Given as goal

abbrev pub invariant-loop-i : goal.invariant-loop-i
invariant-loop-i l = IsThrough l.directories l.search l.i
