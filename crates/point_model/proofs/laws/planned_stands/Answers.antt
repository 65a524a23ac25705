use Rattle.point_model.proofs.Assembled.{planned_stands}
use Rattle.point_model.proofs.laws.planned_stands.Goals as goal

pub returns : goal.returns
returns c = planned_stands
