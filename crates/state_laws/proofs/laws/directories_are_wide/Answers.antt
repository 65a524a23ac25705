use Rattle.state_laws.proofs.ReachedStates.{directories_are_wide}
use Rattle.state_laws.proofs.laws.directories_are_wide.Goals as goal

pub returns : goal.returns
returns c = directories_are_wide
