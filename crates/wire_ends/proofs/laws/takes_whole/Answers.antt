use Rattle.wire_ends.proofs.TakeLemmas.{takes_whole}
use Rattle.wire_ends.proofs.laws.takes_whole.Goals as goal

pub returns : goal.returns
returns c = λ old new bytes taken told over. takes_whole taken told over
