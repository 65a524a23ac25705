use Rattle.wire_ends.proofs.BufferLemmas.{passes_part}
use Rattle.wire_ends.proofs.laws.passes_part.Goals as goal

pub returns : goal.returns
returns c = λ old mid new held kept first second passed part. passes_part second passed part
