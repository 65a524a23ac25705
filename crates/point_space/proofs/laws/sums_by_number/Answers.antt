use Rattle.point_space.proofs.TreeSums.{sums_by_number}
use Rattle.point_space.proofs.laws.sums_by_number.Goals as goal

pub returns : goal.returns
returns c = sums_by_number
