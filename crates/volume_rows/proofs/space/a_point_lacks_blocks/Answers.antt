use Rattle.std.proofs.Common.{refl}
use Rattle.tree_model.specs.Step.{step}
use Rattle.tree_model.specs.Touched.{places}
use Rattle.volume_rows.proofs.space.a_point_lacks_blocks.Goals as goal

pub returns : goal.returns
unfolding step places
returns c = record { room = refl; just_enough = refl; short = refl }
