use Rattle.image_model.proofs.Area.{split_none}
use Rattle.image_model.proofs.planning.pointers_are_listed.Goals as goal

pub returns : goal.returns
returns c = split_none
