use Rattle.log_volume.proofs.ImageLaws.{kept_stands}
use Rattle.log_volume.proofs.meaning.kept_meaning.Goals as goal

pub returns : goal.returns
returns c = kept_stands
