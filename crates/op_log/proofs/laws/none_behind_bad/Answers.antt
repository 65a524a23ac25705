use Rattle.op_log.proofs.LogLemmas.{none_behind_bad}
use Rattle.op_log.proofs.laws.none_behind_bad.Goals as goal

pub returns : goal.returns
returns c = none_behind_bad
