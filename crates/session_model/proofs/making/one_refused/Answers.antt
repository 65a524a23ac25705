use Rattle.session_model.proofs.Joining.{refused_done}
use Rattle.session_model.proofs.making.one_refused.Goals as goal

pub returns : goal.returns
returns g c = λ r m e paired not rest. refused_done r _ m e _ paired not rest
