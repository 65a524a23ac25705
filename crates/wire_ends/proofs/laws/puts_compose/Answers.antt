use Rattle.wire_ends.proofs.PutLemmas.{puts_both}
use Rattle.wire_ends.proofs.laws.puts_compose.Goals as goal

pub returns : goal.returns
returns c = λ old mid new first second one two. puts_both one two
