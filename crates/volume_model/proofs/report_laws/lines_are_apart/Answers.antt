use Rattle.volume_model.proofs.LineCounts.{lines_are_apart}
use Rattle.volume_model.proofs.report_laws.lines_are_apart.Goals as goal

pub returns : goal.returns
returns c = lines_are_apart
