use Rattle.op_log.proofs.LogLemmas.{one_record_more}
use Rattle.op_log.proofs.laws.one_record_more.Goals as goal

pub returns : goal.returns
returns c = one_record_more
