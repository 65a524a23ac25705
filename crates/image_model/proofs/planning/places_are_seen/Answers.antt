use Rattle.image_model.proofs.FileLaws.{places_are_seen}
use Rattle.image_model.proofs.planning.places_are_seen.Goals as goal

pub returns : goal.returns
returns c = places_are_seen
