use Rattle.dir_slots.proofs.MapLaws.{spelled_once}
use Rattle.dir_slots.proofs.laws.one_directory.Goals as goal

pub returns : goal.returns
returns c = spelled_once
