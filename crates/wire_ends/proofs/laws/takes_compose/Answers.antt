use Rattle.wire_ends.proofs.TakeLemmas.{takes_both}
use Rattle.wire_ends.proofs.laws.takes_compose.Goals as goal

pub returns : goal.returns
returns c = λ old mid new first second one two. takes_both one two
