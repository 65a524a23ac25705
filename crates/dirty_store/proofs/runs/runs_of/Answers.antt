use Rattle.std.proofs.Common.{◌<◌, ◌++◌, ◌∷◌, [], sym, ap, subst, ◌∙◌, map, take}
use Rattle.std.proofs.lemmas.List.{take_more, map-append}
use Rattle.dirty_store.specs.Inside.{AreRunsSoFar}
use Rattle.dirty_store.proofs.KeptLaws.{within_at}
use Rattle.dirty_store.proofs.runs.runs_of.Goals as goal

pub add_place-requires-clause-place : goal.add_place-requires-clause-place
add_place-requires-clause-place g c =
    subst (λ e. e.0.1 < 1048576) (sym c.entry-item.is) (within_at c.args.entries.now c.loop-entry.entry-index c.entry-item.result c.requires c.loop-entry-test.true)

pub loop-entry-preserved : goal.loop-entry-preserved
loop-entry-preserved g c =
    let es = c.args.entries.now in
    let i = c.loop-entry.entry-index in
    let x = c.entry-item.result in
    let places = ap (map (λ e. e.0.1)) (take_more es i x c.loop-entry-test.true ∙ ap (λ e. take i es ++ e ∷ []) (sym c.entry-item.is))
    ∙ map-append (λ e. e.0.1) (take i es) (x ∷ []) in
    subst (λ ps. AreRunsSoFar ps c.add_place.new.runs.items) (sym places) (c.in_ok-add_place.ensures (map (λ e. e.0.1) (take i es)) c.loop-entry.invariant)
