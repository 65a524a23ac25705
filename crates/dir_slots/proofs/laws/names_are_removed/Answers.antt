use Rattle.dir_slots.proofs.MapLaws.{names_removed}
use Rattle.dir_slots.proofs.laws.names_are_removed.Goals as goal

pub returns : goal.returns
returns c = names_removed
