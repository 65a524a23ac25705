use Rattle.op_log.proofs.LogLemmas.{one_log}
use Rattle.op_log.proofs.laws.one_log.Goals as goal

pub returns : goal.returns
returns c = one_log
