use Rattle.node_plan.proofs.UnstagedLaws.{unstaged_is_planned}
use Rattle.node_plan.proofs.laws.unstaged_is_planned.Goals as goal

pub returns : goal.returns
returns c = unstaged_is_planned
