use Rattle.session_model.proofs.Second.{served_runs}
use Rattle.session_model.proofs.session_making.served_runs.Goals as goal

pub returns : goal.returns
returns g c = served_runs _ _ _
