use Rattle.image_model.proofs.DirectoryLaws.{directory_is_seen}
use Rattle.image_model.proofs.planning.directory_is_seen.Goals as goal

pub returns : goal.returns
returns c = directory_is_seen
