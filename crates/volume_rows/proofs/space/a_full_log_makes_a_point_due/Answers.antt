use Rattle.std.proofs.Common.{refl}
use Rattle.tree_model.specs.Step.{step}
use Rattle.tree_model.specs.Touched.{places}
use Rattle.volume_rows.proofs.space.a_full_log_makes_a_point_due.Goals as goal

pub returns : goal.returns
unfolding step places
returns c = record { last = refl; due = refl; report = refl }
