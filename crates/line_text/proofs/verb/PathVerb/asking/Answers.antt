use Rattle.std.proofs.Common.{◌≡◌, ap, sym, arith, rules}
use Rattle.std.specs.Prelude.{codes}
use Rattle.std.proofs.lemmas.Slice.Eq.{text_from_reads}
use Rattle.line_text.specs.Lines.{asking_verb}
use Rattle.line_text.proofs.verb.PathVerb.asking.Goals as goal

pub returns-in-layout : goal.returns-in-layout
returns-in-layout c =
    let e : c.args.field.now ≡ codes "layout" = text_from_reads c.args.field.now (codes "layout") (omega arith) (search rules) in
    sym (ap asking_verb e)
