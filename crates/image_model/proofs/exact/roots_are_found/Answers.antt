use Rattle.image_model.proofs.RootExact.{roots_are_found}
use Rattle.image_model.proofs.exact.roots_are_found.Goals as goal

pub returns : goal.returns
returns c = roots_are_found
