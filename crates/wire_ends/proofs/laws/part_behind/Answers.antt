use Rattle.wire_ends.proofs.PutLemmas.{part_behind}
use Rattle.wire_ends.proofs.laws.part_behind.Goals as goal

pub returns : goal.returns
returns c = λ old mid new first second one part. part_behind one part
