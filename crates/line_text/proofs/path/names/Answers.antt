use Rattle.std.proofs.Common.{◌≡◌, ◌∙◌, ◌++◌, ℕ, List, [], ◌∷◌, sym, ap, append_assoc, length-append, arith}
use Rattle.percent_encoding.specs.Percent.{percent_decode}
use Rattle.line_text.specs.Paths.{few_names, is_name}
use Rattle.line_text.proofs.PathLemmas.{names_left, names_step, name_made, names_more, few_pass, few_fails, name_not_made}
use Rattle.line_text.proofs.path.names.Goals as goal
use Rattle.line_text.proofs.path.names.Goals.{in_default-2-via-in-Some-2+else-len-lt32, in_default-2-via-in_default-2}

pub returns-in_default-2 : goal.returns-in_default-2
returns-in_default-2 c =
    let step = names_step c.in-Some.field.now c.cut.result.0.now c.cut.result.1 c.cut.ensures.parts in
    let whole = c.loop-rest.invariant.whole ∙ ap (λ (l : List (List ℕ)). c.loop-rest.names.items ++ l) (ap names_left c.in-Some.is ∙ step) in
    elim c.in_default-2.branch [
      | in_default-2-via-in-Some-2+else-len-lt32 w ↦
          sym (ap few_names whole ∙ few_pass c.loop-rest.names.items (percent_decode c.cut.result.0.now) (names_left c.cut.result.1) (omega arith))
      | in_default-2-via-in_default-2 w ↦
          sym (ap few_names whole ∙ few_fails c.loop-rest.names.items (percent_decode c.cut.result.0.now) (names_left c.cut.result.1) (name_not_made (percent_decode c.cut.result.0.now) (sym w.in_default-2.is ∙ c.in_ok-name.ensures)))
    ]

pub loop-rest-preserved : goal.loop-rest-preserved
loop-rest-preserved c =
    let step = names_step c.in-Some.field.now c.cut.result.0.now c.cut.result.1 c.cut.ensures.parts in
    let made = name_made (percent_decode c.cut.result.0.now) c.in-Some-2.name (sym c.in-Some-2.is ∙ c.in_ok-name.ensures) in
    let items : c.push.new.self.items ≡ c.loop-rest.names.items ++ c.in-Some-2.name ∷ [] = c.in_ok-push-in-Some-2.ensures.items in
    let left : names_left c.loop-rest.rest ≡ c.in-Some-2.name ∷ names_left c.cut.result.1 = ap names_left c.in-Some.is ∙ step ∙ ap (λ (n : List ℕ). n ∷ names_left c.cut.result.1) (sym made.1) in
    record {
      whole = c.loop-rest.invariant.whole ∙ ap (λ (l : List (List ℕ)). c.loop-rest.names.items ++ l) left ∙ sym (append_assoc c.loop-rest.names.items (c.in-Some-2.name ∷ []) (names_left c.cut.result.1)) ∙ ap (λ (l : List (List ℕ)). l ++ names_left c.cut.result.1) (sym items);
      each = rw items (names_more c.loop-rest.names.items c.in-Some-2.name c.loop-rest.invariant.each (ap is_name made.1 ∙ made.0));
      few = rw items (omega (arith, length-append c.loop-rest.names.items (c.in-Some-2.name ∷ [])));
    }
