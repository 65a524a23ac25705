use Rattle.tree_model.proofs.TouchLaws.{touches_written}
use Rattle.tree_model.proofs.laws.touches_written.Goals as goal

pub returns : goal.returns
returns c = touches_written
