use Rattle.std.proofs.Common.{refl}
use Rattle.tree_model.specs.Step.{step}
use Rattle.tree_model.specs.Touched.{places}
use Rattle.volume_rows.proofs.files.a_grown_file_keeps_its_blocks.Goals as goal

pub returns : goal.returns
unfolding step places
returns c = record { within = refl; beyond = refl; between = refl }
