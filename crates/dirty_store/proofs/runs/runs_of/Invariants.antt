use Rattle.std.proofs.Common.{map, take}
use Rattle.dirty_store.specs.Inside.{AreRunsSoFar}
use Rattle.dirty_store.proofs.runs.runs_of.Given as goal

abbrev pub invariant-loop-entry : goal.invariant-loop-entry
invariant-loop-entry g l = AreRunsSoFar (map (λ e. e.0.1) (take l.entry-index l.entries)) l.runs.items
