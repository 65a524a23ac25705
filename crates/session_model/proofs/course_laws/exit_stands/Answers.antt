use Rattle.session_model.proofs.Stored.{exit_stands}
use Rattle.session_model.proofs.course_laws.exit_stands.Goals as goal

pub returns : goal.returns
returns c = exit_stands
