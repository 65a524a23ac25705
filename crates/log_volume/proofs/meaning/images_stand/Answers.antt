use Rattle.log_volume.proofs.ImageLaws.{kept_stands, image_keeps}
use Rattle.log_volume.proofs.meaning.images_stand.Goals as goal

pub returns : goal.returns
returns c = λ s image kept closed is stands. kept_stands s.contents image kept (image_keeps s image closed is) stands
