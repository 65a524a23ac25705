use Rattle.std.proofs.Common.{◌++◌, List, ℕ, ap, sym, subst}
use Rattle.std.specs.List.{flat_map}
use Rattle.wire_ends.specs.Buffer.{PutsThrough}
use Rattle.wire_ends.specs.Ends.{PutsPart}
use Rattle.tree_model.specs.declared.report.Line.{Line}
use Rattle.reply_text.specs.Replies.{line_text, point_text, report_text}
use Rattle.reply_text.proofs.ListPuts.{put_both, part_first}
use Rattle.reply_text.proofs.replies.put_report.Goals as goal

pub returns-in-Ok-clause-text : goal.returns-in-Ok-clause-text
returns-in-Ok-clause-text g c =
    let report = c.in-Some.report in
    let rest = c.put_lines.new.buffer in
    subst (λ (t : List ℕ). PutsThrough (g.W.Sink.seen c.args.sink.now) (g.W.Sink.seen c.put_lines.new.sink) c.args.buffer.now rest t c.put_lines.result) (sym (ap report_text c.in-Some.is))
    (put_both (g.W.Sink.seen c.put_lines.new.sink) rest (point_text report) (flat_map line_text report.lines) c.put_lines.result c.point_line.ensures (ap (λ (l : List Line). flat_map line_text l) c.as_slice.ensures)
    c.in-Ok.ensures.text c.put_lines.ensures.text)

pub returns-in-Err-clause-text : goal.returns-in-Err-clause-text
returns-in-Err-clause-text g c =
    subst (λ (t : List ℕ). PutsPart (g.W.Sink.seen c.args.sink.now) (g.W.Sink.seen c.put_line.new.sink) (c.args.buffer.now ++ t)) (sym (ap report_text c.in-Some.is))
    (part_first c.args.buffer.now (point_text c.in-Some.report) (flat_map line_text c.in-Some.report.lines) c.point_line.ensures c.in-Err.ensures.text)
