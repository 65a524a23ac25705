use Rattle.std.proofs.Common.{refl}
use Rattle.tree_model.specs.Step.{step}
use Rattle.tree_model.specs.Touched.{places}
use Rattle.volume_rows.proofs.sharing.the_least_place_is_taken.Goals as goal

pub returns : goal.returns
unfolding step places
returns c = record { before = refl; least = refl }
