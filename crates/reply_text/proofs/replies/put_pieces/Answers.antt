use Rattle.std.proofs.Common.{arith}
use Rattle.reply_text.specs.Replies.{piece_text}
use Rattle.reply_text.proofs.ListPuts.{part_around, put_more}
use Rattle.reply_text.proofs.replies.put_pieces.Goals as goal

pub returns-in-Err-clause-text : goal.returns-in-Err-clause-text
returns-in-Err-clause-text g c =
    part_around piece_text c.args.pieces.now c.loop-piece.piece-index _ (g.W.Sink.seen c.put_line.new.sink) c.args.buffer.now c.loop-piece.buffer (omega arith) c.piece_line.ensures c.loop-piece.invariant c.in-Err.ensures.text

pub loop-piece-preserved : goal.loop-piece-preserved
loop-piece-preserved g c = put_more piece_text c.args.pieces.now c.loop-piece.piece-index _ (omega arith) c.piece_line.ensures c.loop-piece.invariant c.in_default.ensures.text c.in_default.ensures.cause
