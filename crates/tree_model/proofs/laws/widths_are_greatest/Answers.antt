use Rattle.tree_model.proofs.StepWidths.{widths_are_greatest}
use Rattle.tree_model.proofs.laws.widths_are_greatest.Goals as goal

pub returns : goal.returns
returns c = widths_are_greatest
