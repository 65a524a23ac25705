use Rattle.point_model.proofs.Staged.{staging_holds}
use Rattle.point_model.proofs.laws.staging_holds.Goals as goal

pub returns : goal.returns
returns c = staging_holds
