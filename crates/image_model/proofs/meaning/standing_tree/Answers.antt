use Rattle.image_model.proofs.StandingTree.{standing_tree}
use Rattle.image_model.proofs.meaning.standing_tree.Goals as goal

pub returns : goal.returns
returns c = standing_tree
