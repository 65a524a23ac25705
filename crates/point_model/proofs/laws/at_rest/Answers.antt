use Rattle.point_model.proofs.Resting.{at_rest}
use Rattle.point_model.proofs.laws.at_rest.Goals as goal

pub returns : goal.returns
returns c = at_rest
