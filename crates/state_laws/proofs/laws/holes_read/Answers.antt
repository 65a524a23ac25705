use Rattle.state_laws.proofs.ReachedStates.{holes_read}
use Rattle.state_laws.proofs.laws.holes_read.Goals as goal

pub returns : goal.returns
returns c = holes_read
