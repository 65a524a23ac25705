use Rattle.volume_model.proofs.LegalLaws.{next_stored}
use Rattle.volume_model.proofs.laws.next_stored.Goals as goal

pub returns : goal.returns
returns c = next_stored
