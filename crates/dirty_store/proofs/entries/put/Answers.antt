use Rattle.std.proofs.Common.{sym, ap, ◌∙◌, slice_set}
use Rattle.std.specs.Prelude.{Some}
use Rattle.dirty_store.proofs.Places.{find_place, find_gap, put_place, put_gap, place_in, gap_in}
use Rattle.dirty_store.proofs.entries.put.Goals as goal

pub returns-in-Ok-clause-put : goal.returns-in-Ok-clause-put
returns-in-Ok-clause-put g c =
    let items = c.args.entries.now.items in
    ap (slice_set items c.in-Ok.place) c.replace-was.ensures.after
    ∙ sym (put_place c.args.spot c.args.item items c.in-Ok.place c.requires.in_order (place_in c.args.spot c.deref.result.now items c.in-Ok.place c.deref.ensures.value c.in-Ok.ensures.found))

pub returns-in-Ok-clause-was : goal.returns-in-Ok-clause-was
returns-in-Ok-clause-was g c =
    let items = c.args.entries.now.items in
    ap (λ e. Some e.1) (c.replace-was.ensures.value ∙ c.index_mut.ensures.value)
    ∙ sym (find_place c.args.spot items c.in-Ok.place c.index_mut.result.now c.requires.in_order (place_in c.args.spot c.deref.result.now items c.in-Ok.place c.deref.ensures.value c.in-Ok.ensures.found))

pub returns-in-Err-clause-put : goal.returns-in-Err-clause-put
returns-in-Err-clause-put g c =
    let items = c.args.entries.now.items in
    c.insert_at.ensures.inserted
    ∙ sym (put_gap c.args.spot c.args.item items c.in-Err.place (gap_in c.args.spot c.deref.result.now items c.in-Err.place c.deref.ensures.value c.in-Err.ensures.gap))

pub returns-in-Err-clause-was : goal.returns-in-Err-clause-was
returns-in-Err-clause-was g c =
    let items = c.args.entries.now.items in
    sym (find_gap c.args.spot items c.in-Err.place (gap_in c.args.spot c.deref.result.now items c.in-Err.place c.deref.ensures.value c.in-Err.ensures.gap))
