use Rattle.wire_ends.proofs.BufferLemmas.{through_both, part_in_first}
use Rattle.reply_text.specs.Replies.{report_text, reply_text}
use Rattle.reply_text.proofs.replies.put_parts.Goals as goal

pub returns-in-Ok-clause-text : goal.returns-in-Ok-clause-text
returns-in-Ok-clause-text g c = through_both (g.W.Sink.seen c.put_reply.new.sink) c.put_reply.new.buffer (reply_text c.args.answer.now.reply) c.put_reply.result c.in-Ok.ensures.text c.put_reply.ensures.text

pub returns-in-Err-clause-text : goal.returns-in-Err-clause-text
returns-in-Err-clause-text g c = part_in_first c.args.buffer.now (report_text c.args.answer.now.report) (reply_text c.args.answer.now.reply) c.in-Err.ensures.text
