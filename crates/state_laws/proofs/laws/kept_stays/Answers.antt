use Rattle.state_laws.proofs.ReachedStates.{kept_stays}
use Rattle.state_laws.proofs.laws.kept_stays.Goals as goal

pub returns : goal.returns
returns c = kept_stays
