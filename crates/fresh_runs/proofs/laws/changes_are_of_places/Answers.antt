use Rattle.fresh_runs.proofs.OfPlaces.{changes_are_of_places}
use Rattle.fresh_runs.proofs.laws.changes_are_of_places.Goals as goal

pub returns : goal.returns
returns c = changes_are_of_places
