use Rattle.op_log.proofs.PathLemmas.{length-path_bytes}
use Rattle.op_log.proofs.spelling.rename_head.Goals as goal

pub returns-clause-is : goal.returns-clause-is
returns-clause-is c =
    let len = length-path_bytes c.args.to.now in
    cc
