use Rattle.std.proofs.Common.{refl}
use Rattle.tree_model.specs.Step.{step}
use Rattle.tree_model.specs.Touched.{places}
use Rattle.volume_rows.proofs.files.one_block_is_written_over.Goals as goal

pub returns : goal.returns
unfolding step places
returns c = refl
