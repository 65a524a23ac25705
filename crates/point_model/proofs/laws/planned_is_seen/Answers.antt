use Rattle.point_model.proofs.Assembled.{planned_is_seen}
use Rattle.point_model.proofs.laws.planned_is_seen.Goals as goal

pub returns : goal.returns
returns c = planned_is_seen
