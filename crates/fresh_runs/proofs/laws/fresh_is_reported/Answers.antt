use Rattle.fresh_runs.proofs.Reported.{fresh_is_reported}
use Rattle.fresh_runs.proofs.laws.fresh_is_reported.Goals as goal

pub returns : goal.returns
returns c = fresh_is_reported
