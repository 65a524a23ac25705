use Rattle.image_model.proofs.LiveLaws.{old_root_stands}
use Rattle.image_model.proofs.meaning.old_root_stands.Goals as goal

pub returns : goal.returns
returns c = old_root_stands
