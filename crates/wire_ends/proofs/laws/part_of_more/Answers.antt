use Rattle.wire_ends.proofs.PutLemmas.{part_of_more}
use Rattle.wire_ends.proofs.laws.part_of_more.Goals as goal

pub returns : goal.returns
returns c = λ old new first second part. part_of_more second part
