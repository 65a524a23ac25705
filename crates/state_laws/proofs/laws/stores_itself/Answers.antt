use Rattle.state_laws.proofs.ReachedStates.{stores_itself}
use Rattle.state_laws.proofs.laws.stores_itself.Goals as goal

pub returns : goal.returns
returns c = stores_itself
