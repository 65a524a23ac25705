use Rattle.log_volume.proofs.ImageLaws.{one_meaning}
use Rattle.log_volume.proofs.meaning.one_meaning.Goals as goal

pub returns : goal.returns
returns c = one_meaning
