use Rattle.image_rows.proofs.PointRows.{point_is_met}
use Rattle.image_rows.proofs.rows.point_is_met.Goals as goal

pub returns : goal.returns
returns c = point_is_met
