use Rattle.std.proofs.Common.{◌≡◌, ap, sym, arith, rules}
use Rattle.std.specs.Prelude.{codes}
use Rattle.std.proofs.lemmas.Slice.Eq.{text_from_reads}
use Rattle.line_text.specs.Lines.{path_verb}
use Rattle.line_text.proofs.verb.PathVerb.from_field.Goals as goal

pub returns-in-create : goal.returns-in-create
returns-in-create c =
    let e : c.args.field.now ≡ codes "create" = text_from_reads c.args.field.now (codes "create") (omega arith) (search rules) in
    sym (ap path_verb e)

pub returns-in-remove : goal.returns-in-remove
returns-in-remove c =
    let e : c.args.field.now ≡ codes "remove" = text_from_reads c.args.field.now (codes "remove") (omega arith) (search rules) in
    sym (ap path_verb e)
