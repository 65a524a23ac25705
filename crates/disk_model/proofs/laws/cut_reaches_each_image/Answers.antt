use Rattle.disk_model.proofs.CutLemmas.{each_image_picked}
use Rattle.disk_model.proofs.laws.cut_reaches_each_image.Goals as goal

pub returns : goal.returns
returns c = each_image_picked
