use Rattle.std.proofs.Common.{refl}
use Rattle.tree_model.specs.Step.{step}
use Rattle.tree_model.specs.Touched.{places}
use Rattle.volume_rows.proofs.files.a_write_of_nothing.Goals as goal

pub returns : goal.returns
unfolding step places
returns c = record { given = refl; space = refl; stat = refl }
