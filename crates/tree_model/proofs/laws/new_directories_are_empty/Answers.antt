use Rattle.tree_model.proofs.StepWidths.{new_directories_are_empty}
use Rattle.tree_model.proofs.laws.new_directories_are_empty.Goals as goal

pub returns : goal.returns
returns c = new_directories_are_empty
