use Rattle.std.proofs.Common.{refl}
use Rattle.tree_model.specs.Step.{step}
use Rattle.tree_model.specs.Touched.{places}
use Rattle.volume_rows.proofs.space.charges_make_a_point_due.Goals as goal

pub returns : goal.returns
unfolding step places
returns c = record { just_enough = refl; one_more = refl; refused_by_the_tree = refl }
