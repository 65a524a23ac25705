use Rattle.volume_model.proofs.RoomLaws.{done_has_room}
use Rattle.volume_model.proofs.laws.done_has_room.Goals as goal

pub returns : goal.returns
returns c = done_has_room
