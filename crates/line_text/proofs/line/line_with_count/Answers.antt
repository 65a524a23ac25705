use Rattle.std.proofs.Common.{◌∙◌, ℕ, List, [], ◌∷◌, sym, ap}
use Rattle.std.specs.Prelude.{◌==◌}
use Rattle.line_text.specs.Lines.{line_of_parts}
use Rattle.line_text.proofs.LineLemmas.{some_part, too_many, four_fields}
use Rattle.line_text.proofs.line.line_with_count.Goals as goal

pub returns-in-Some : goal.returns-in-Some
returns-in-Some c =
    let parts = rw c.in-Some.is at c.cut.ensures.parts in
    let some = some_part (λ b. b == 32) c.in-Some.field-0.now in
    let front = c.args.verb.now ∷ c.args.path.now ∷ c.args.offset.now ∷ c.cut.result.0.now ∷ [] in
    c.bad_command.ensures
    ∙ sym (ap (λ (l : List (List ℕ)). line_of_parts (c.args.verb.now ∷ c.args.path.now ∷ c.args.offset.now ∷ l)) (parts ∙ ap (λ (l : List (List ℕ)). c.cut.result.0.now ∷ l) some.2)
    ∙ too_many c.args.verb.now c.args.path.now c.args.offset.now c.cut.result.0.now some.0 some.1)

pub returns-in-None : goal.returns-in-None
returns-in-None c =
    let parts = rw c.in-None.is at c.cut.ensures.parts in
    let said = ap (λ (l : List (List ℕ)). line_of_parts (c.args.verb.now ∷ c.args.path.now ∷ c.args.offset.now ∷ l)) parts ∙ four_fields c.args.verb.now c.args.path.now c.args.offset.now c.cut.result.0.now c.requires.path c.requires.offset in
    rw said c.three_line.ensures
