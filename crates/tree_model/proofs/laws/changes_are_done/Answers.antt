use Rattle.tree_model.proofs.RefusalLaws.{changes_are_done}
use Rattle.tree_model.proofs.laws.changes_are_done.Goals as goal

pub returns : goal.returns
returns c = changes_are_done
