use Rattle.std.proofs.Common.{◌≡◌, ◌∙◌, ◌++◌, ℕ, List, ap, subst}
use Rattle.std.specs.Prelude.{codes, decimal}
use Rattle.reply_text.specs.Putting.{PutsText}
use Rattle.command_server.proofs.findings.put_good.Goals as goal

pub returns-clause-text : goal.returns-clause-text
returns-clause-text g c =
    let name = codes "good nodes=" in
    let nodes : c.push_number.new.line.bytes ≡ name ++ decimal c.args.sum.nodes = c.push_number.ensures.bytes ∙ ap (λ (l : List ℕ). l ++ name ++ decimal c.args.sum.nodes) c.new-line.ensures in
    let records : c.push_number-2.new.line.bytes ≡ name ++ decimal c.args.sum.nodes ++ codes " records=" ++ decimal c.args.sum.records =
    c.push_number-2.ensures.bytes ∙ ap (λ (l : List ℕ). l ++ codes " records=" ++ decimal c.args.sum.records) nodes in
    let line : c.push_number-3.new.line.bytes ≡ name ++ decimal c.args.sum.nodes ++ codes " records=" ++ decimal c.args.sum.records ++ codes " free=" ++ decimal c.args.sum.free =
    c.push_number-3.ensures.bytes ∙ ap (λ (l : List ℕ). l ++ codes " free=" ++ decimal c.args.sum.free) records in
    subst (λ (l : List ℕ). PutsText (g.W.Sink.seen c.args.sink.now) (g.W.Sink.seen c.put_line.new.sink) (l ++ codes "\n") c.put_line.result) line c.put_line.ensures.text
