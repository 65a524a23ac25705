use Rattle.image_model.proofs.ExactLaws.{standing_has_none}
use Rattle.image_model.proofs.exact.standing_has_none.Goals as goal

pub returns : goal.returns
returns c = standing_has_none
