use Rattle.session_model.proofs.Reaching.{acknowledged_first}
use Rattle.session_model.proofs.course_laws.acknowledged_first.Goals as goal

pub returns : goal.returns
returns c = acknowledged_first
