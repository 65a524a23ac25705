use Rattle.state_laws.proofs.ReachedStates.{places_are_in_files}
use Rattle.state_laws.proofs.laws.places_are_in_files.Goals as goal

pub returns : goal.returns
returns c = places_are_in_files
