use Rattle.std.proofs.Common.{◌≡◌, ◌+◌, drop}
use Rattle.sequence_rule.specs.Choosing.{reach_along}
use Rattle.sequence_rule.proofs.choosing.reach.Given as goal

abbrev pub invariant-loop-n : goal.invariant-loop-n
invariant-loop-n l = l.n + reach_along (l.place + l.n) (l.block + l.n) (drop l.n l.rows) ≡ reach_along l.place l.block l.rows
