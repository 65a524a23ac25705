use Rattle.wire_ends.proofs.BufferLemmas.{passes_whole}
use Rattle.wire_ends.proofs.laws.passes_whole.Goals as goal

pub returns : goal.returns
returns c = λ old mid new rest bytes passed out. passes_whole passed out
