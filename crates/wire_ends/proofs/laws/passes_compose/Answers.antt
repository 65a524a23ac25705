use Rattle.wire_ends.proofs.BufferLemmas.{passes_both}
use Rattle.wire_ends.proofs.laws.passes_compose.Goals as goal

pub returns : goal.returns
returns c = λ old mid new held kept rest first second one two. passes_both one two
