use Rattle.std.proofs.Common.{◌≤◌, ◌+◌, ◌∷◌, [], sym, subst, length}
use Rattle.std.specs.Prelude.{Some, None}
use Rattle.dirty_store.specs.Entries.{AreKept, set_back, there}
use Rattle.dirty_store.proofs.KeptLaws.{set_back_kept, length-set_back}
use Rattle.dirty_store.proofs.staging.set_back.Goals as goal

pub returns-in-Some-clause-kept : goal.returns-in-Some-clause-kept
returns-in-Some-clause-kept g c =
    subst AreKept (sym c.put.ensures.put) (set_back_kept c.args.spot (Some c.in-Some.item) c.args.entries.now.items c.requires.within c.requires.kept)

pub returns-in-Some-clause-count : goal.returns-in-Some-clause-count
returns-in-Some-clause-count g c =
    let items = c.args.entries.now.items in
    let room = subst (λ o. length (set_back c.args.spot (Some c.in-Some.item) items) ≤ length items + there ((c.args.spot, o) ∷ [])) (sym c.in-Some.is)
    (length-set_back c.args.spot (Some c.in-Some.item) items c.requires.kept.in_order) in
    subst (λ es. length es ≤ length items + there ((c.args.spot, c.args.item) ∷ [])) (sym c.put.ensures.put) room

pub returns-in-None-clause-kept : goal.returns-in-None-clause-kept
returns-in-None-clause-kept g c =
    subst AreKept (sym c.take.ensures.taken) (set_back_kept c.args.spot None c.args.entries.now.items c.requires.within c.requires.kept)

pub returns-in-None-clause-count : goal.returns-in-None-clause-count
returns-in-None-clause-count g c =
    let items = c.args.entries.now.items in
    let room = subst (λ o. length (set_back c.args.spot None items) ≤ length items + there ((c.args.spot, o) ∷ [])) (sym c.in-None.is)
    (length-set_back c.args.spot None items c.requires.kept.in_order) in
    subst (λ es. length es ≤ length items + there ((c.args.spot, c.args.item) ∷ [])) (sym c.take.ensures.taken) room
