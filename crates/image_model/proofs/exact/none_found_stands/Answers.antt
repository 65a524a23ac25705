use Rattle.image_model.proofs.ExactLaws.{none_found_stands}
use Rattle.image_model.proofs.exact.none_found_stands.Goals as goal

pub returns : goal.returns
returns c = none_found_stands
