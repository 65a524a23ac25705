use Rattle.tree_model.proofs.StepFollows.{touches_only}
use Rattle.tree_model.proofs.laws.touches_only.Goals as goal

pub returns : goal.returns
returns c = touches_only
