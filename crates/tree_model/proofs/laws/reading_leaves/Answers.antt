use Rattle.tree_model.proofs.AttemptLaws.{reading_leaves}
use Rattle.tree_model.proofs.laws.reading_leaves.Goals as goal

pub returns : goal.returns
returns c = reading_leaves
