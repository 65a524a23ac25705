use Rattle.point_plan.proofs.RestedLaws.{coherence_stays}
use Rattle.point_plan.proofs.laws.coherence_stays.Goals as goal

pub returns : goal.returns
returns c = coherence_stays c.always_coherent.ensures c.points_exist.ensures
