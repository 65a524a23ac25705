use Rattle.log_volume.proofs.ImageLaws.{next_stands}
use Rattle.log_volume.proofs.meaning.next_stands.Goals as goal

pub returns : goal.returns
returns c = next_stands
