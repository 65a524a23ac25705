use Rattle.std.proofs.Common.{refl}
use Rattle.tree_model.specs.Step.{step}
use Rattle.tree_model.specs.Touched.{places}
use Rattle.volume_rows.proofs.sharing.the_least_recently_used_leaves_first.Goals as goal

pub returns : goal.returns
unfolding step places
returns c = record { by_place = refl; in_front = refl; first_out = refl; next_out = refl }
