use Rattle.std.proofs.Common.{refl}
use Rattle.tree_model.specs.Step.{step}
use Rattle.tree_model.specs.Touched.{places}
use Rattle.volume_rows.proofs.files.a_cut_between_blocks_touches_nothing.Goals as goal

pub returns : goal.returns
unfolding step places
returns c = record { touches = refl; layout = refl; may = refl; report = refl }
