use Rattle.session_model.proofs.Opening.{served_is_reached}
use Rattle.session_model.proofs.session_making.served_is_reached.Goals as goal

pub returns : goal.returns
returns g c = served_is_reached _ _ _
