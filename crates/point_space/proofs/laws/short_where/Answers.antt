use Rattle.point_space.proofs.RoughNeeds.{short_where}
use Rattle.point_space.proofs.laws.short_where.Goals as goal

pub returns : goal.returns
returns c = short_where
