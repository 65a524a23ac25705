use Rattle.op_log.proofs.LogLemmas.{one_spelling}
use Rattle.op_log.proofs.laws.one_spelling.Goals as goal

pub returns : goal.returns
returns c = one_spelling
