use Rattle.image_model.proofs.BodyExact.{none_found_early}
use Rattle.image_model.proofs.exact.none_found_early.Goals as goal

pub returns : goal.returns
returns c = none_found_early
