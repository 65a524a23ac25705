use Rattle.state_laws.proofs.ReachedStates.{always_coherent}
use Rattle.state_laws.proofs.laws.always_coherent.Goals as goal

pub returns : goal.returns
returns c = always_coherent
