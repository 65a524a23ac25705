use Rattle.std.proofs.Common.{◌≡◌}
use Rattle.command_text.specs.Filling.{Fills, IsShorter}
use Rattle.command_text.proofs.FillLemmas.{FilledSoFar}
use Rattle.command_text.proofs.reader.CommandReader.fill_to.Given as goal

abbrev pub invariant-pieces : goal.invariant-pieces
invariant-pieces g l = FilledSoFar ((g.R.Source.seen l.source).faults ≡ (g.R.Source.seen l.initial.source).faults) (Fills (IsShorter l.count) l.initial.self l.self (g.R.Source.seen l.initial.source) (g.R.Source.seen l.source))

abbrev pub decreases-pieces : goal.decreases-pieces
decreases-pieces g l = l.self.budget
