use Rattle.tree_model.proofs.StepFollows.{widths_never_fall}
use Rattle.tree_model.proofs.laws.widths_never_fall.Goals as goal

pub returns : goal.returns
returns c = widths_never_fall
