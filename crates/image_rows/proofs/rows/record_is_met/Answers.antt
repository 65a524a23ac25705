use Rattle.image_rows.proofs.PointRows.{record_is_met}
use Rattle.image_rows.proofs.rows.record_is_met.Goals as goal

pub returns : goal.returns
returns c = record_is_met
