use Rattle.std.proofs.Common.{take}
use Rattle.dirty_store.specs.Laws.{dirty_spots}
use Rattle.fresh_runs.specs.Inside.{ArePlaced}
use Rattle.fresh_runs.proofs.place.place_all.Given as goal

abbrev pub invariant-loop-number : goal.invariant-loop-number
invariant-loop-number l = ArePlaced (dirty_spots l.store.overlay) l.initial.free (take l.number-index l.numbers) l.lines.items l.free l.changes.items
