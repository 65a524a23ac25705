use Rattle.std.proofs.Common.{◌≡◌, ◌<◌, ◌≤◌, ◌+◌, ◌*◌, ℕ, length, drop}
use Rattle.std.specs.Prelude.{slice_index}
use Rattle.vol_numbers.specs.Geometry.{layout_of}
use Rattle.vol_numbers.specs.Layout.{count_blocks}
use Rattle.block_format.specs.Index.{IsPointer}
use Rattle.image_model.specs.Walk.{tops_met}
use Rattle.image_walk.specs.Going.{Part}
use Rattle.image_walk.specs.Reads.{metadata_count, pointer_count}
use Rattle.image_walk.proofs.trees.meet_tops.Given as goal

abbrev pub invariant-loop-k : goal.invariant-loop-k
invariant-loop-k l = record {
  part : Part (layout_of l.g) l.fn.marks l.marks (tops_met l.blocks 0 l.tops) (tops_met l.blocks (1024 * l.k) (drop l.k l.tops));
  long : length l.marks ≡ 1024 * count_blocks (layout_of l.g);
  counted : pointer_count l.tops + metadata_count (tops_met l.blocks (1024 * l.k) (drop l.k l.tops)) ≤ metadata_count (tops_met l.blocks 0 l.tops) + pointer_count (drop l.k l.tops);
  within : (k : ℕ) → k < l.k → IsPointer (layout_of l.g) (slice_index l.tops k);
}
