use Rattle.std.proofs.Common.{◌-◌, ◌++◌, ◌∷◌, [], List, ℕ, sym, ap, ◌∙◌, append_assoc, arith}
use Rattle.place_words.specs.Different.{span}
use Rattle.tree_plan.proofs.RisingLaws.{span_more}
use Rattle.tree_plan.proofs.pages.push_range.Goals as goal

pub loop-place-preserved : goal.loop-place-preserved
loop-place-preserved c =
    let from = c.args.from in
    let k = c.loop-place.place in
    c.in_ok-push.ensures.items ∙ ap (λ (l : List ℕ). l ++ k ∷ []) c.loop-place.invariant ∙ append_assoc c.args.places.now.items (span from (k - from)) (k ∷ [])
    ∙ ap (λ (l : List ℕ). c.args.places.now.items ++ l) (sym (span_more from k (omega arith)))
