use Rattle.state_laws.proofs.Changes.{changes_follow}
use Rattle.state_laws.proofs.laws.changes_follow.Goals as goal

pub returns : goal.returns
returns c = changes_follow
