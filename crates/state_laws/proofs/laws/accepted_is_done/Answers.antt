use Rattle.state_laws.proofs.ReachedStates.{accepted_is_done}
use Rattle.state_laws.proofs.laws.accepted_is_done.Goals as goal

pub returns : goal.returns
returns c = accepted_is_done
