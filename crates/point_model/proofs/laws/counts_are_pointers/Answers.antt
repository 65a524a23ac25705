use Rattle.point_model.proofs.Counted.{counts_are_pointers}
use Rattle.point_model.proofs.laws.counts_are_pointers.Goals as goal

pub returns : goal.returns
returns c = counts_are_pointers
