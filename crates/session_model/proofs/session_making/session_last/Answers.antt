use Rattle.session_model.proofs.Sessions.{session_of_last}
use Rattle.session_model.proofs.session_making.session_last.Goals as goal

pub returns : goal.returns
returns g c = session_of_last _ _ _
