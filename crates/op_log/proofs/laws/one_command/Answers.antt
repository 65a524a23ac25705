use Rattle.op_log.proofs.SpellingLaws.{one_command}
use Rattle.op_log.proofs.laws.one_command.Goals as goal

pub returns : goal.returns
returns c = one_command
