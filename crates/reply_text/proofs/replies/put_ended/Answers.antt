use Rattle.std.specs.Prelude.{codes}
use Rattle.wire_ends.proofs.BufferLemmas.{through, through_both, part_in_first}
use Rattle.reply_text.proofs.replies.put_ended.Goals as goal

pub returns-in-Ok-clause-text : goal.returns-in-Ok-clause-text
returns-in-Ok-clause-text g c =
    through_both (g.W.Sink.seen c.put-in-Ok.new.sink) c.put-in-Ok.new.self (codes "\n") c.put-in-Ok.result c.in-Ok.ensures.passed
    (through (g.W.Sink.seen c.put.new.sink) (g.W.Sink.seen c.put-in-Ok.new.sink) c.put.new.self c.put-in-Ok.new.self (codes "\n") c.put-in-Ok.result c.put-in-Ok.ensures.passed c.put-in-Ok.ensures.part)

pub returns-in-Err-clause-text : goal.returns-in-Err-clause-text
returns-in-Err-clause-text g c = part_in_first c.args.buffer.now c.args.bytes.now (codes "\n") c.in-Err.ensures.part
