use Rattle.point_plan.proofs.Whole.{made_is_planned}
use Rattle.point_plan.proofs.laws.made_is_planned.Goals as goal

pub returns : goal.returns
returns c = made_is_planned
