use Rattle.std.proofs.Common.{◌≡◌, ◌-◌, length, drop}
use Rattle.sequence_rule.specs.Choosing.{best_along}
use Rattle.sequence_rule.proofs.choosing.best_along.Given as goal

abbrev pub invariant-loop-i : goal.invariant-loop-i
invariant-loop-i l = l.best ≡ best_along (drop (length l.rows - l.i) l.rows)
