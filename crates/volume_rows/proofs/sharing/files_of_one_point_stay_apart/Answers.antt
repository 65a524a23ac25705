use Rattle.std.proofs.Common.{refl}
use Rattle.tree_model.specs.Step.{step}
use Rattle.tree_model.specs.Touched.{places}
use Rattle.volume_rows.proofs.sharing.files_of_one_point_stay_apart.Goals as goal

pub returns : goal.returns
unfolding step places
returns c = record { apart = refl; later = refl }
