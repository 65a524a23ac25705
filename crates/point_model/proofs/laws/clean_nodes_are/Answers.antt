use Rattle.point_model.proofs.AtRest.{clean_nodes}
use Rattle.point_model.proofs.laws.clean_nodes_are.Goals as goal

pub returns : goal.returns
returns c = clean_nodes
