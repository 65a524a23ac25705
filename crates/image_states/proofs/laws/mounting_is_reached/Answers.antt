use Rattle.image_states.proofs.Mountable.{mounting_is_reached}
use Rattle.image_states.proofs.laws.mounting_is_reached.Goals as goal

pub returns : goal.returns
returns c = mounting_is_reached
