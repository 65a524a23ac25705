use Rattle.tree_model.proofs.AttemptLaws.{same_tree}
use Rattle.tree_model.proofs.laws.same_tree.Goals as goal

pub returns : goal.returns
returns c = same_tree
