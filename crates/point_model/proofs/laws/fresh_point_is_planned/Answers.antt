use Rattle.point_model.proofs.FreshPoint.{fresh_point_is_planned}
use Rattle.point_model.proofs.laws.fresh_point_is_planned.Goals as goal

pub returns : goal.returns
returns c = fresh_point_is_planned
