use Rattle.image_rows.proofs.FreshRow.{fresh_is_met}
use Rattle.image_rows.proofs.rows.fresh_is_met.Goals as goal

pub returns : goal.returns
returns c = fresh_is_met
