use Rattle.point_plan.proofs.RestedLaws.{point_rests}
use Rattle.point_plan.proofs.laws.point_rests.Goals as goal

pub returns : goal.returns
returns c = point_rests c.coherence_stays.ensures c.at_rest.ensures c.after_metadata_is.ensures
