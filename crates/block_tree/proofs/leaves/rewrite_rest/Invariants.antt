use Rattle.std.proofs.Common.{◌≡◌, ◌<◌, ◌≤◌, ◌+◌, ℕ, IsTrue, length}
use Rattle.std.specs.Prelude.{slice_index, nat_lt}
use Rattle.disk_model.specs.Past.{Adds}
use Rattle.block_format.specs.Index.{IsPointer}
use Rattle.vol_numbers.specs.Geometry.{layout_of}
use Rattle.block_tree.specs.Tree.{blocks_in}
use Rattle.block_tree.specs.Notes.{Takes, LeavesUse, AreSound}
use Rattle.block_tree.specs.Pages.{LeadInto}
use Rattle.block_tree.specs.Room.{leaves_room}
use Rattle.block_tree.specs.Leaf.{AreLeavesRewritten}
use Rattle.block_tree.proofs.leaves.rewrite_rest.Given as goal

abbrev pub invariant-loop-k : goal.invariant-loop-k
invariant-loop-k g l = record {
  rewritten : IsTrue g.D.Disk.tells → AreLeavesRewritten (blocks_in (g.D.Disk.state l.fn.disk).contents) l.edit.changes.now l.edit.cut_to (nat_lt l.edit.height 2) l.k l.fn.leaves.ptrs l.leaves.ptrs l.fn.notes l.notes;
  takes : Takes l.fn.notes l.notes;
  free : leaves_room l.edit.changes.now l.edit.cut_to l.k l.end + 1 ≤ length l.notes.free;
  uses : LeavesUse l.edit.changes.now l.k l.fn.notes l.notes;
  sound : LeadInto (layout_of l.g) l.edit.changes.now → AreSound (layout_of l.g) l.fn.notes → AreSound (layout_of l.g) l.notes × ((j : ℕ) → 1 ≤ j → j < l.k → IsPointer (layout_of l.g) (slice_index l.leaves.ptrs j));
  long : length l.leaves.ptrs ≡ 1024;
  first : slice_index l.leaves.ptrs 0 ≡ slice_index l.fn.leaves.ptrs 0;
  rest : (j : ℕ) → l.k ≤ j → slice_index l.leaves.ptrs j ≡ slice_index l.fn.leaves.ptrs j;
  same : IsTrue g.D.Disk.tells → g.D.Disk.state l.disk ≡ g.D.Disk.state l.fn.disk;
  moments : IsTrue g.D.Disk.tells → Adds (g.D.Disk.past l.fn.disk) (g.D.Disk.past l.disk) (λ s. s ≡ g.D.Disk.state l.fn.disk);
  fixed : g.D.Disk.fixed l.disk ≡ g.D.Disk.fixed l.fn.disk;
  given : (g.D.Disk.given l.fn.disk).count ≤ (g.D.Disk.given l.disk).count;
  faults : g.D.Disk.faults l.disk ≡ g.D.Disk.faults l.fn.disk;
}
