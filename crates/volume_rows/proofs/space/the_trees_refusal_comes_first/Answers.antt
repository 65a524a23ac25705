use Rattle.std.proofs.Common.{refl}
use Rattle.tree_model.specs.Step.{step}
use Rattle.tree_model.specs.Touched.{places}
use Rattle.volume_rows.proofs.space.the_trees_refusal_comes_first.Goals as goal

pub returns : goal.returns
unfolding step places
returns c = record { missing = refl; directory = refl; taken = refl; accepted = refl }
