use Rattle.point_model.proofs.BuiltEffects.{built_is_of_change}
use Rattle.point_model.proofs.laws.built_is_of_change.Goals as goal

pub returns : goal.returns
returns c = built_is_of_change
