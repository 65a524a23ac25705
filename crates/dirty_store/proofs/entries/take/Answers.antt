use Rattle.std.proofs.Common.{sym, ap, ◌∙◌}
use Rattle.std.specs.Prelude.{Some}
use Rattle.dirty_store.proofs.Places.{find_place, find_gap, without_place, without_gap, place_in, gap_in}
use Rattle.dirty_store.proofs.entries.take.Goals as goal

pub returns-in-Ok-clause-taken : goal.returns-in-Ok-clause-taken
returns-in-Ok-clause-taken g c =
    let items = c.args.entries.now.items in
    c.remove.ensures.items
    ∙ sym (without_place c.args.spot items c.in-Ok.place c.requires (place_in c.args.spot c.deref.result.now items c.in-Ok.place c.deref.ensures.value c.in-Ok.ensures.found))

pub returns-in-Ok-clause-was : goal.returns-in-Ok-clause-was
returns-in-Ok-clause-was g c =
    let items = c.args.entries.now.items in
    ap (λ e. Some e.1) c.remove.ensures.value
    ∙ sym (find_place c.args.spot items c.in-Ok.place c.remove.result c.requires (place_in c.args.spot c.deref.result.now items c.in-Ok.place c.deref.ensures.value c.in-Ok.ensures.found))

pub returns-in-Err-clause-taken : goal.returns-in-Err-clause-taken
returns-in-Err-clause-taken g c =
    let items = c.args.entries.now.items in
    sym (without_gap c.args.spot items c.in-Err.field-0 (gap_in c.args.spot c.deref.result.now items c.in-Err.field-0 c.deref.ensures.value c.in-Err.ensures.gap))

pub returns-in-Err-clause-was : goal.returns-in-Err-clause-was
returns-in-Err-clause-was g c =
    let items = c.args.entries.now.items in
    sym (find_gap c.args.spot items c.in-Err.field-0 (gap_in c.args.spot c.deref.result.now items c.in-Err.field-0 c.deref.ensures.value c.in-Err.ensures.gap))
