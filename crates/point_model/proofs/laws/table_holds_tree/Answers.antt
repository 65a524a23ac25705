use Rattle.point_model.proofs.Staged.{table_holds_tree}
use Rattle.point_model.proofs.laws.table_holds_tree.Goals as goal

pub returns : goal.returns
returns c = table_holds_tree
