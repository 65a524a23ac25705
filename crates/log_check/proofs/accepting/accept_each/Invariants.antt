use Rattle.std.proofs.Common.{◌≤◌, ◌*◌, take}
use Rattle.log_check.specs.Accepting.{IsCharged}
use Rattle.log_check.proofs.accepting.accept_each.Given as goal

abbrev pub invariant-loop-i : goal.invariant-loop-i
invariant-loop-i l = record {
  taken : IsCharged l.free l.fn.nodes (take l.i l.commands) l.nodes l.charged;
  few : l.charged ≤ 25 * l.i;
}
