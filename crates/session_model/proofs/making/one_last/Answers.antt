use Rattle.session_model.proofs.Joining.{last_done}
use Rattle.session_model.proofs.making.one_last.Goals as goal

pub returns : goal.returns
returns g c = λ r m last paired applies. last_done r _ m last _ _ paired applies
