use Rattle.tree_model.proofs.RenameLaws.{keeps_trees}
use Rattle.tree_model.proofs.laws.keeps_tree.Goals as goal

pub returns : goal.returns
returns c = keeps_trees
