use Rattle.std.proofs.Common.{◌≡◌, ◌-◌, length, drop}
use Rattle.sequence_rule.specs.Choosing.{best_to}
use Rattle.sequence_rule.proofs.choosing.best_to.Given as goal

abbrev pub invariant-loop-i : goal.invariant-loop-i
invariant-loop-i l = l.best ≡ best_to l.place l.rows (drop (length l.blocks - l.i) l.blocks)
