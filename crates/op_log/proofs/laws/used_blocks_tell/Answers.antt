use Rattle.op_log.proofs.LogLemmas.{used_blocks_tell}
use Rattle.op_log.proofs.laws.used_blocks_tell.Goals as goal

pub returns : goal.returns
returns c = used_blocks_tell
