use Rattle.volume_model.proofs.LegalLaws.{some_is_legal}
use Rattle.volume_model.proofs.laws.some_is_legal.Goals as goal

pub returns : goal.returns
returns c = some_is_legal
