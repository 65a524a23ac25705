use Rattle.session_model.proofs.Reaching.{states_reached}
use Rattle.session_model.proofs.course_laws.states_are_reached.Goals as goal

pub returns : goal.returns
returns g c = states_reached _ _ _
