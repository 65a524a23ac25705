use Rattle.image_model.proofs.NextLaws.{accepted_more}
use Rattle.image_model.proofs.meaning.accepted_more.Goals as goal

pub returns : goal.returns
returns c = accepted_more
