use Rattle.volume_model.proofs.ReportOrder.{report_lines_are}
use Rattle.volume_model.proofs.report_laws.report_lines_are.Goals as goal

pub returns : goal.returns
returns c = report_lines_are
