use Rattle.session_model.proofs.Stored.{any_moment}
use Rattle.session_model.proofs.runs.any_moment.Goals as goal

pub returns : goal.returns
returns c = any_moment
