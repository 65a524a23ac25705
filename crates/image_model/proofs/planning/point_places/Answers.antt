use Rattle.image_model.proofs.NextLaws.{point_places}
use Rattle.image_model.proofs.planning.point_places.Goals as goal

pub returns : goal.returns
returns c = point_places
