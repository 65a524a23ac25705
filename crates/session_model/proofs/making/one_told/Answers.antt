use Rattle.session_model.proofs.Joining.{told_done}
use Rattle.session_model.proofs.making.one_told.Goals as goal

pub returns : goal.returns
returns g c = λ r m e paired applies. told_done r _ m e _ _ paired applies
