use Rattle.image_model.proofs.DirectoryRead.{directory_is_tested}
use Rattle.image_model.proofs.reading.directory_is_tested.Goals as goal

pub returns : goal.returns
returns c = directory_is_tested
