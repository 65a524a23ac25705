use Rattle.session_model.proofs.Joining.{one_more_done}
use Rattle.session_model.proofs.making.one_more.Goals as goal

pub returns : goal.returns
returns g c = λ r x e none paired follows applies. one_more_done r _ x e _ _ _ none paired follows applies
