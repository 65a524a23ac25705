use Rattle.fresh_runs.proofs.Reported.{nothing_is_shared}
use Rattle.fresh_runs.proofs.laws.nothing_is_shared.Goals as goal

pub returns : goal.returns
returns c = nothing_is_shared
