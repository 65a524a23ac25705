use Rattle.std.proofs.Common.{sym}
use Rattle.command_text.proofs.FrontLemmas.{front_missing, wrong_too_long, wrong_ends_late}
use Rattle.command_text.proofs.line_end.line_end.Goals as goal

pub returns-in-Some-2-clause-end : goal.returns-in-Some-2-clause-end
returns-in-Some-2-clause-end c = wrong_ends_late c.args.bytes.now c.in-Some.end (sym c.in-Some.ensures) c.if-end-le-LONGEST_LINE.false

pub returns-in-None-clause-end : goal.returns-in-None-clause-end
returns-in-None-clause-end c = wrong_too_long c.args.bytes.now (sym c.in-None.ensures) c.if-bytes-gt-LONGEST_LINE.true

pub returns-in-None-2-clause-end : goal.returns-in-None-2-clause-end
returns-in-None-2-clause-end c = front_missing c.args.bytes.now (sym c.in-None.ensures) c.if-bytes-gt-LONGEST_LINE.false
