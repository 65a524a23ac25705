use Rattle.image_model.proofs.FileLaws.{file_is_seen}
use Rattle.image_model.proofs.planning.file_is_seen.Goals as goal

pub returns : goal.returns
returns c = file_is_seen
