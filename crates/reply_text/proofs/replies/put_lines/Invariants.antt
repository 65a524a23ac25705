use Rattle.std.proofs.Common.{take}
use Rattle.std.specs.List.{flat_map}
use Rattle.reply_text.specs.Replies.{line_text}
use Rattle.reply_text.proofs.ListPuts.{PutSoFar}
use Rattle.reply_text.proofs.replies.put_lines.Given as goal

abbrev pub invariant-loop-line : goal.invariant-loop-line
invariant-loop-line g l = PutSoFar (g.W.Sink.seen l.initial.sink) (g.W.Sink.seen l.sink) l.initial.buffer l.buffer (flat_map line_text (take l.line-index l.lines))
