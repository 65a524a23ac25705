use Rattle.std.proofs.Common.{◌≡◌, ◌++◌}
use Rattle.std.specs.Vec.Iter.{into_iter_items}
use Rattle.dirty_store.specs.Entries.{AreWithin}
use Rattle.dirty_store.specs.Inside.{unboxed}
use Rattle.dirty_store.specs.Overlay.{touched_entries}
use Rattle.dirty_store.proofs.boxes.boxed_blocks.Given as goal

abbrev pub invariant-loop-place : goal.invariant-loop-place
invariant-loop-place l = record {
  rest : l.yielded ++ into_iter_items l.place-iterator ≡ into_iter_items l.initial.place-iterator;
  boxed : unboxed l.entries.items ≡ touched_entries l.number l.yielded;
  within : AreWithin l.entries.items;
}
