use Rattle.std.proofs.Common.{◌≡◌, ◌<◌, ◌*◌, ℕ, length, drop}
use Rattle.std.specs.Prelude.{slice_index}
use Rattle.vol_numbers.specs.Geometry.{layout_of}
use Rattle.vol_numbers.specs.Layout.{count_blocks}
use Rattle.block_format.specs.Index.{IsPointer}
use Rattle.image_model.specs.Walk.{entries_met}
use Rattle.image_walk.specs.Going.{Part}
use Rattle.image_walk.proofs.index.meet_entries.Given as goal

abbrev pub invariant-loop-entry : goal.invariant-loop-entry
invariant-loop-entry l = record {
  part : Part (layout_of l.g) l.fn.marks l.marks (entries_met l.entries) (entries_met (drop l.entry-index l.entries));
  long : length l.marks ≡ 1024 * count_blocks (layout_of l.g);
  within : (k : ℕ) → k < l.entry-index → IsPointer (layout_of l.g) (slice_index l.entries k);
}
