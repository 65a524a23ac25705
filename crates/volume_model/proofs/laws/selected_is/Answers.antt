use Rattle.volume_model.proofs.SharingLaws.{selected_is}
use Rattle.volume_model.proofs.laws.selected_is.Goals as goal

pub returns : goal.returns
returns c = selected_is
