use Rattle.point_space.proofs.RoughNeeds.{rough_needs}
use Rattle.point_space.proofs.laws.rough_needs.Goals as goal

pub returns : goal.returns
returns c = rough_needs
