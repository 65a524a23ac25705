use Rattle.std.proofs.Common.{◌≡◌, ◌≤◌, ◌-◌, ◌++◌, length}
use Rattle.sequence_rule.specs.Choosing.{picks_along}
use Rattle.sequence_rule.proofs.choosing.picks.Given as goal

-- the picks so far, and those from what is left
abbrev pub invariant-loop-turn : goal.invariant-loop-turn
invariant-loop-turn l = record {
  told : l.picked.items ++ picks_along l.threshold (length l.fn.rows.items - l._turn) l.left.items ≡ picks_along l.threshold (length l.fn.rows.items) l.fn.rows.items;
  few : length l.left.items ≤ length l.fn.rows.items;
}
