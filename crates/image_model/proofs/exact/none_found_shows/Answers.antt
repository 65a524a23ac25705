use Rattle.image_model.proofs.ShownEarly.{none_found_shows}
use Rattle.image_model.proofs.exact.none_found_shows.Goals as goal

pub returns : goal.returns
returns c = none_found_shows
