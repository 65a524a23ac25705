use Rattle.dirty_store.proofs.Bounds.{bounds_are}
use Rattle.dirty_store.proofs.cuts.bounds_of.Goals as goal

pub returns : goal.returns
returns g c = rw (c.count_before-start.ensures, c.count_before-end.ensures) (bounds_are c.args.number c.args.from c.args.entries.now c.requires.from c.requires.kept)
