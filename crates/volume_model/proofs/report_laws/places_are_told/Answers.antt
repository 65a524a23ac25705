use Rattle.volume_model.proofs.PlacesTold.{places_are_told}
use Rattle.volume_model.proofs.report_laws.places_are_told.Goals as goal

pub returns : goal.returns
returns c = places_are_told
