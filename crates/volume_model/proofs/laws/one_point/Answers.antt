use Rattle.volume_model.proofs.LineLaws.{one_point}
use Rattle.volume_model.proofs.laws.one_point.Goals as goal

pub returns : goal.returns
returns c = one_point
