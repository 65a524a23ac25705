use Rattle.std.proofs.Common.{arith}
use Rattle.reply_text.specs.Replies.{line_text}
use Rattle.reply_text.proofs.ListPuts.{part_around, put_more}
use Rattle.reply_text.proofs.replies.put_lines.Goals as goal

pub returns-in-Err-clause-text : goal.returns-in-Err-clause-text
returns-in-Err-clause-text g c =
    part_around line_text c.args.lines.now c.loop-line.line-index _ (g.W.Sink.seen c.put_line.new.sink) c.args.buffer.now c.loop-line.buffer (omega arith) c.change_line.ensures c.loop-line.invariant c.in-Err.ensures.text

pub loop-line-preserved : goal.loop-line-preserved
loop-line-preserved g c = put_more line_text c.args.lines.now c.loop-line.line-index _ (omega arith) c.change_line.ensures c.loop-line.invariant c.in_default.ensures.text c.in_default.ensures.cause
