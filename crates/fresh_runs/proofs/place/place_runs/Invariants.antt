use Rattle.std.proofs.Common.{take}
use Rattle.fresh_runs.proofs.Placing.{AreRunsPlaced}
use Rattle.fresh_runs.proofs.place.place_runs.Given as goal

abbrev pub invariant-loop-run : goal.invariant-loop-run
invariant-loop-run l = AreRunsPlaced l.number l.initial.free (take l.run-index l.runs) l.free l.initial.lines.items l.lines.items l.changes.items
