use Rattle.volume_model.proofs.CacheLists.{eight_at_most}
use Rattle.volume_model.proofs.report_laws.eight_at_most.Goals as goal

pub returns : goal.returns
returns c = eight_at_most
