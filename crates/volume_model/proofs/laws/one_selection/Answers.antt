use Rattle.volume_model.proofs.SharingLaws.{one_selection}
use Rattle.volume_model.proofs.laws.one_selection.Goals as goal

pub returns : goal.returns
returns c = one_selection
