use Rattle.session_model.proofs.Joining.{nothing_done}
use Rattle.session_model.proofs.making.no_course.Goals as goal

pub returns : goal.returns
returns g c = λ r m rest. nothing_done r _ m _ rest
