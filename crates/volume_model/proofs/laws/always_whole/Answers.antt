use Rattle.volume_model.proofs.WholeLaws.{always_whole}
use Rattle.volume_model.proofs.laws.always_whole.Goals as goal

pub returns : goal.returns
returns c = always_whole
