use Rattle.image_model.proofs.HeldLaws.{tree_is_held}
use Rattle.image_model.proofs.meaning.tree_is_held.Goals as goal

pub returns : goal.returns
returns c = tree_is_held
