use Rattle.state_laws.proofs.ReachedStates.{fingerprints_are_true}
use Rattle.state_laws.proofs.laws.fingerprints_are_true.Goals as goal

pub returns : goal.returns
returns c = fingerprints_are_true
