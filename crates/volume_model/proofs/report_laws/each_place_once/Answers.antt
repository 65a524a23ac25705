use Rattle.volume_model.proofs.LineCounts.{each_place_once}
use Rattle.volume_model.proofs.report_laws.each_place_once.Goals as goal

pub returns : goal.returns
returns c = each_place_once
