use Rattle.std.proofs.Common.{take}
use Rattle.fresh_runs.proofs.Adding.{ArePieces}
use Rattle.fresh_runs.proofs.place.place_run.Given as goal

abbrev pub invariant-loop-blocks : goal.invariant-loop-blocks
invariant-loop-blocks l = ArePieces l.number l.fn.run.first (take l.blocks-index l.blocks-items) l.place l.initial.lines.items l.lines.items l.initial.changes.items l.changes.items
