use Rattle.std.proofs.Common.{◌++◌}
use Rattle.std.specs.Prelude.{codes}
use Rattle.wire_ends.proofs.BufferLemmas.{through_both, part_in_first}
use Rattle.reply_text.proofs.replies.put_with_data.Goals as goal

pub returns-in-Ok-clause-text : goal.returns-in-Ok-clause-text
returns-in-Ok-clause-text g c =
    through_both (g.W.Sink.seen c.put_ended.new.sink) c.put_ended.new.buffer (c.args.bytes.now ++ codes "\n") c.put_ended.result c.in-Ok.ensures.passed c.put_ended.ensures.text

pub returns-in-Err-clause-text : goal.returns-in-Err-clause-text
returns-in-Err-clause-text g c = part_in_first c.args.buffer.now c.args.line.now (c.args.bytes.now ++ codes "\n") c.in-Err.ensures.part
