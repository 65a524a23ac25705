use Rattle.volume_model.proofs.LegalLaws.{excuses_are_few}
use Rattle.volume_model.proofs.laws.excuses_are_few.Goals as goal

pub returns : goal.returns
returns c = excuses_are_few
