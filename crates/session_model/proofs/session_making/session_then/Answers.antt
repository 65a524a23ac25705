use Rattle.session_model.proofs.Sessions.{session_joined}
use Rattle.session_model.proofs.session_making.session_then.Goals as goal

pub returns : goal.returns
returns g c = session_joined _ _ _ _
