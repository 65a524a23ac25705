use Rattle.volume_model.proofs.LineLaws.{points_exist}
use Rattle.volume_model.proofs.laws.points_exist.Goals as goal

pub returns : goal.returns
returns c = points_exist
