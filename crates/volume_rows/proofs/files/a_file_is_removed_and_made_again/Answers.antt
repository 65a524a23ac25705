use Rattle.std.proofs.Common.{refl}
use Rattle.tree_model.specs.Step.{step}
use Rattle.tree_model.specs.Touched.{places}
use Rattle.volume_rows.proofs.files.a_file_is_removed_and_made_again.Goals as goal

pub returns : goal.returns
unfolding step places
returns c = record { stat = refl; layout = refl; shared = refl; shorter = refl; fresh = refl }
