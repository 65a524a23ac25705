use Rattle.state_laws.proofs.FreshState.{fresh_is_mountable}
use Rattle.state_laws.proofs.laws.fresh_is_mountable.Goals as goal

pub returns : goal.returns
returns c = fresh_is_mountable
