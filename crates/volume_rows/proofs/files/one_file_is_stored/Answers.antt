use Rattle.std.proofs.Common.{refl}
use Rattle.tree_model.specs.Step.{step}
use Rattle.tree_model.specs.Touched.{places}
use Rattle.volume_rows.proofs.files.one_file_is_stored.Goals as goal

pub returns : goal.returns
unfolding step places
returns c = record { space = refl; due = refl; may = refl; report = refl; told = refl; layout = refl; after = refl; rest = refl }
