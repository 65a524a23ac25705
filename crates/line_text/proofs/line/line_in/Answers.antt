use Rattle.std.proofs.Common.{◌∙◌, sym}
use Rattle.line_text.proofs.LineLemmas.{one_field, line_of_split}
use Rattle.line_text.proofs.line.line_in.Goals as goal

pub returns-in-Some : goal.returns-in-Some
returns-in-Some c =
    let parts = rw c.in-Some.is at c.cut.ensures.parts in
    rw (line_of_split c.args.line.now _ parts) c.line_with_path.ensures

pub returns-in-None : goal.returns-in-None
returns-in-None c =
    let parts = rw c.in-None.is at c.cut.ensures.parts in
    c.bare_line.ensures ∙ sym (line_of_split c.args.line.now _ parts ∙ one_field c.cut.result.0.now)
