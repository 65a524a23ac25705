use Rattle.std.proofs.Common.{◌≡◌, ◌++◌}
use Rattle.std.specs.Vec.Iter.{into_iter_items}
use Rattle.dirty_store.specs.Entries.{AreWithin}
use Rattle.dirty_store.specs.Inside.{unboxed}
use Rattle.dirty_store.specs.Overlay.{slot_entries}
use Rattle.dirty_store.proofs.boxes.boxed_slots.Given as goal

abbrev pub invariant-loop-directory : goal.invariant-loop-directory
invariant-loop-directory l = record {
  rest : l.yielded ++ into_iter_items l.directory-iterator ≡ into_iter_items l.initial.directory-iterator;
  boxed : unboxed l.entries.items ≡ slot_entries l.yielded;
  within : AreWithin l.entries.items;
}
