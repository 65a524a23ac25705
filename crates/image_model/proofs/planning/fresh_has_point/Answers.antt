use Rattle.image_model.proofs.FreshLaws.{fresh_has_point}
use Rattle.image_model.proofs.planning.fresh_has_point.Goals as goal

pub returns : goal.returns
returns c = fresh_has_point
