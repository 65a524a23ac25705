use Rattle.session_model.proofs.Sessions.{opening_joined}
use Rattle.session_model.proofs.session_making.opening_then.Goals as goal

pub returns : goal.returns
returns g c = opening_joined _ _ _ _
