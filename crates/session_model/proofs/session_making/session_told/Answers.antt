use Rattle.session_model.proofs.Sessions.{session_of_told}
use Rattle.session_model.proofs.session_making.session_told.Goals as goal

pub returns : goal.returns
returns g c = session_of_told _ _ _
