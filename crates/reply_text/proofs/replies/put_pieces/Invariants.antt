use Rattle.std.proofs.Common.{take}
use Rattle.std.specs.List.{flat_map}
use Rattle.reply_text.specs.Replies.{piece_text}
use Rattle.reply_text.proofs.ListPuts.{PutSoFar}
use Rattle.reply_text.proofs.replies.put_pieces.Given as goal

abbrev pub invariant-loop-piece : goal.invariant-loop-piece
invariant-loop-piece g l = PutSoFar (g.W.Sink.seen l.initial.sink) (g.W.Sink.seen l.sink) l.initial.buffer l.buffer (flat_map piece_text (take l.piece-index l.pieces))
