use Rattle.state_laws.proofs.ReachedStates.{cache_lists_are}
use Rattle.state_laws.proofs.laws.cache_lists_are.Goals as goal

pub returns : goal.returns
returns c = cache_lists_are
