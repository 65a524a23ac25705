use Rattle.std.proofs.Common.{length, refl}
use Rattle.std.specs.Prelude.{codes}
use Rattle.std.specs.List.{flat_map}
use Rattle.reply_text.specs.Replies.{counted_text, piece_text}
use Rattle.reply_text.proofs.ListPuts.{put_both, part_first}
use Rattle.reply_text.proofs.replies.put_layout.Goals as goal

pub returns-in-Ok-clause-text : goal.returns-in-Ok-clause-text
returns-in-Ok-clause-text g c =
    put_both (g.W.Sink.seen c.put_pieces.new.sink) c.put_pieces.new.buffer (counted_text (codes "layout ") (length c.args.pieces.now)) (flat_map piece_text c.args.pieces.now) c.put_pieces.result c.count_line.ensures refl
    c.in-Ok.ensures.text c.put_pieces.ensures.text

pub returns-in-Err-clause-text : goal.returns-in-Err-clause-text
returns-in-Err-clause-text g c =
    part_first c.args.buffer.now (counted_text (codes "layout ") (length c.args.pieces.now)) (flat_map piece_text c.args.pieces.now) c.count_line.ensures c.in-Err.ensures.text
