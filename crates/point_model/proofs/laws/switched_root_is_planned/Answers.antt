use Rattle.point_model.proofs.SwitchedRoot.{switched_root_is_planned}
use Rattle.point_model.proofs.laws.switched_root_is_planned.Goals as goal

pub returns : goal.returns
returns c = switched_root_is_planned
