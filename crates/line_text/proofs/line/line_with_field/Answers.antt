use Rattle.std.proofs.Common.{◌∙◌, ℕ, List, ◌∷◌, sym, ap}
use Rattle.line_text.specs.Lines.{line_of_parts}
use Rattle.line_text.proofs.LineLemmas.{three_fields, empty_field_cut, no_bytes, some_bytes}
use Rattle.line_text.proofs.line.line_with_field.Goals as goal

pub returns-then-is_empty : goal.returns-then-is_empty
returns-then-is_empty c =
    c.bad_command.ensures ∙ sym (empty_field_cut c.args.verb.now c.args.path.now c.cut.result.0.now c.args.rest.now c.cut.result.1 c.cut.ensures.parts (no_bytes c.cut.result.0.now c.if-is_empty.ensures))

pub returns-in-None : goal.returns-in-None
returns-in-None c =
    let parts = rw c.in-None.is at c.cut.ensures.parts in
    let said = ap (λ (l : List (List ℕ)). line_of_parts (c.args.verb.now ∷ c.args.path.now ∷ l)) parts ∙ three_fields c.args.verb.now c.args.path.now c.cut.result.0.now c.requires (some_bytes c.cut.result.0.now c.if-is_empty.ensures) in
    rw said c.two_line.ensures
