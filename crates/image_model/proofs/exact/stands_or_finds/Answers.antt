use Rattle.image_model.proofs.ExactLaws.{stands_or_finds}
use Rattle.image_model.proofs.exact.stands_or_finds.Goals as goal

pub returns : goal.returns
returns c = stands_or_finds
