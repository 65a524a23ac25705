use Rattle.std.proofs.Common.{◌≡◌, ap, sym, arith, rules}
use Rattle.std.specs.Prelude.{codes}
use Rattle.std.proofs.lemmas.Slice.Eq.{text_from_reads}
use Rattle.line_text.specs.Lines.{bare_line}
use Rattle.line_text.proofs.line.bare_line.Goals as goal

pub returns-in-checkpoint : goal.returns-in-checkpoint
returns-in-checkpoint c =
    let e : c.args.verb.now ≡ codes "checkpoint" = text_from_reads c.args.verb.now (codes "checkpoint") (omega arith) (search rules) in
    sym (ap bare_line e)
