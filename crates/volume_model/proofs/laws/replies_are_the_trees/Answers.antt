use Rattle.volume_model.proofs.LegalLaws.{replies_are_the_trees}
use Rattle.volume_model.proofs.laws.replies_are_the_trees.Goals as goal

pub returns : goal.returns
returns c = replies_are_the_trees
