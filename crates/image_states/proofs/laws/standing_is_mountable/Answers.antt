use Rattle.image_states.proofs.Mountable.{standing_is_mountable}
use Rattle.image_states.proofs.laws.standing_is_mountable.Goals as goal

pub returns : goal.returns
returns c = standing_is_mountable
