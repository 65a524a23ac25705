use Rattle.std.proofs.Common.{◌≡◌, ◌+◌, ◌++◌, ◌∷◌, [], List, sym, ap, ◌∙◌, append_assoc}
use Rattle.vol_numbers.specs.declared.runs.Change.{Change}
use Rattle.volume_model.specs.Lines.{line_places}
use Rattle.fresh_runs.specs.Fresh.{as_changes}
use Rattle.fresh_runs.proofs.Adding.{changes_step}
use Rattle.fresh_runs.proofs.grow.add_changes.Goals as goal

pub loop-k-preserved : goal.loop-k-preserved
loop-k-preserved c =
    let line = c.args.line in
    let k = c.loop-k.k in
    let one : Change = record { place = line.place + k; block = line.block + k } in
    let was = as_changes (line_places (record line { length = k })) in
    c.in_ok-push.ensures.items ∙ ap (λ (cs : List Change). cs ++ one ∷ []) c.loop-k.invariant ∙ append_assoc c.args.changes.now.items was (one ∷ [])
    ∙ ap (λ (cs : List Change). c.args.changes.now.items ++ cs) (sym (changes_step line k))
