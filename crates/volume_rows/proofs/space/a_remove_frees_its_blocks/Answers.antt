use Rattle.std.proofs.Common.{refl}
use Rattle.tree_model.specs.Step.{step}
use Rattle.tree_model.specs.Touched.{places}
use Rattle.volume_rows.proofs.space.a_remove_frees_its_blocks.Goals as goal

pub returns : goal.returns
unfolding step places
returns c = record { removed = refl; due = refl; report = refl; after = refl }
