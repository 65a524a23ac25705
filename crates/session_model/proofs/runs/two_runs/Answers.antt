use Rattle.session_model.proofs.Stored.{two_runs}
use Rattle.session_model.proofs.runs.two_runs.Goals as goal

pub returns : goal.returns
returns c = two_runs
