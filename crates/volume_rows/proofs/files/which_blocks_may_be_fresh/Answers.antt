use Rattle.std.proofs.Common.{refl}
use Rattle.tree_model.specs.Step.{step}
use Rattle.tree_model.specs.Touched.{places}
use Rattle.volume_rows.proofs.files.which_blocks_may_be_fresh.Goals as goal

pub returns : goal.returns
unfolding step places
returns c = record { twice = refl; stored = refl; below = refl; past = refl; few = refl }
