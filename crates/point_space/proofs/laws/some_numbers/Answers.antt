use Rattle.point_space.proofs.TreeSums.{some_numbers}
use Rattle.point_space.proofs.laws.some_numbers.Goals as goal

pub returns : goal.returns
returns c = some_numbers
