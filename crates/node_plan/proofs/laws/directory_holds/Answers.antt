use Rattle.node_plan.proofs.HoldsLaws.{directory_holds}
use Rattle.node_plan.proofs.laws.directory_holds.Goals as goal

pub returns : goal.returns
returns c = directory_holds
