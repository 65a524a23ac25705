use Rattle.std.proofs.Common.{refl}
use Rattle.tree_model.specs.Step.{step}
use Rattle.tree_model.specs.Touched.{places}
use Rattle.volume_rows.proofs.sharing.blocks_of_the_last_point_are_compared.Goals as goal

pub returns : goal.returns
unfolding step places
returns c = refl
