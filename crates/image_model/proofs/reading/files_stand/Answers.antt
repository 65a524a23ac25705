use Rattle.image_model.proofs.FileRead.{files_stand}
use Rattle.image_model.proofs.reading.files_stand.Goals as goal

pub returns : goal.returns
returns c = files_stand
