use Rattle.point_model.proofs.Assembled.{has_point}
use Rattle.point_model.proofs.laws.planned_has_point.Goals as goal

pub returns : goal.returns
returns c = has_point
