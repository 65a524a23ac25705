use Rattle.session_model.proofs.Reaching.{next_is}
use Rattle.session_model.proofs.course_laws.next_is.Goals as goal

pub returns : goal.returns
returns c = next_is
