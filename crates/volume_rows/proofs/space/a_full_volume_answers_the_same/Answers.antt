use Rattle.std.proofs.Common.{refl}
use Rattle.tree_model.specs.Step.{step}
use Rattle.tree_model.specs.Touched.{places}
use Rattle.volume_rows.proofs.space.a_full_volume_answers_the_same.Goals as goal

pub returns : goal.returns
unfolding step places
returns c = record { stays = refl; no_point = refl; again = refl }
