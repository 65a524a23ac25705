use Rattle.state_laws.proofs.ReachedStates.{stored_is_mountable}
use Rattle.state_laws.proofs.laws.stored_is_mountable.Goals as goal

pub returns : goal.returns
returns c = stored_is_mountable
