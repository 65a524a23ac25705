use Rattle.session_model.proofs.Counted.{stop_counted}
use Rattle.session_model.proofs.course_laws.stop_is_counted.Goals as goal

pub returns : goal.returns
returns g c = stop_counted _ _ _
