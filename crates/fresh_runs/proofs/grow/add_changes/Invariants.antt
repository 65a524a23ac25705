use Rattle.std.proofs.Common.{◌≡◌, ◌++◌}
use Rattle.fresh_runs.specs.Fresh.{as_changes}
use Rattle.volume_model.specs.Lines.{line_places}
use Rattle.fresh_runs.proofs.grow.add_changes.Given as goal

abbrev pub invariant-loop-k : goal.invariant-loop-k
invariant-loop-k l = l.changes.items ≡ l.initial.changes.items ++ as_changes (line_places (record l.line { length = l.k }))
