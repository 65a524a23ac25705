use Rattle.image_states.proofs.Mountable.{standing_fits}
use Rattle.image_states.proofs.laws.standing_fits.Goals as goal

pub returns : goal.returns
returns c = standing_fits
