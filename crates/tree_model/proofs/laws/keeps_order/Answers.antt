use Rattle.tree_model.proofs.AttemptLaws.{keeps_order}
use Rattle.tree_model.proofs.laws.keeps_order.Goals as goal

pub returns : goal.returns
returns c = keeps_order
