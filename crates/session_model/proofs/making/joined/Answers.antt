use Rattle.session_model.proofs.Joining.{joined_done}
use Rattle.session_model.proofs.making.joined.Goals as goal

pub returns : goal.returns
returns g c = λ r x y ended starts one two. joined_done r _ x y _ _ _ ended starts one two
