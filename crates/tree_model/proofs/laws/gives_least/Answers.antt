use Rattle.tree_model.proofs.Numbers.{gives_least}
use Rattle.tree_model.proofs.laws.gives_least.Goals as goal

pub returns : goal.returns
returns c = gives_least
