use Rattle.dir_slots.proofs.MapLaws.{names_put}
use Rattle.dir_slots.proofs.laws.names_are_put.Goals as goal

pub returns : goal.returns
returns c = names_put
