use Rattle.image_model.proofs.DirectoryRead.{directories_stand}
use Rattle.image_model.proofs.reading.directories_stand.Goals as goal

pub returns : goal.returns
returns c = directories_stand
