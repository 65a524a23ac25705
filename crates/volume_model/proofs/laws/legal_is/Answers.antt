use Rattle.volume_model.proofs.LegalLaws.{legal_is}
use Rattle.volume_model.proofs.laws.legal_is.Goals as goal

pub returns : goal.returns
returns c = legal_is
