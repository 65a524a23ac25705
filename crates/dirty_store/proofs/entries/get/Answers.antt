use Rattle.std.proofs.Common.{sym}
use Rattle.dirty_store.proofs.Places.{find_place, find_gap}
use Rattle.dirty_store.proofs.entries.get.Goals as goal

pub returns-in-Ok : goal.returns-in-Ok
returns-in-Ok g c = sym (find_place c.args.spot c.args.entries.now c.in-Ok.place c.index-entries-place.result c.requires c.in-Ok.ensures.found)

pub returns-in-Err : goal.returns-in-Err
returns-in-Err g c = sym (find_gap c.args.spot c.args.entries.now c.in-Err.field-0 c.in-Err.ensures.gap)
