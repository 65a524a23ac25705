use Rattle.tree_model.proofs.StepFollows.{nodes_follow}
use Rattle.tree_model.proofs.laws.nodes_follow.Goals as goal

pub returns : goal.returns
returns c = nodes_follow
