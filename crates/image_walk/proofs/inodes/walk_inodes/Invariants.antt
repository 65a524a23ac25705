use Rattle.std.proofs.Common.{◌≡◌, ◌≤◌, ◌+◌, ◌*◌, IsTrue, List, drop}
use Rattle.vol_numbers.specs.Geometry.{layout_of}
use Rattle.disk_model.specs.Past.{Adds}
use Rattle.block_tree.specs.Tree.{blocks_in}
use Rattle.image_model.specs.Walk.{blocks_met}
use Rattle.image_walk.specs.declared.marks.Mark.{Mark}
use Rattle.image_walk.specs.Going.{Part}
use Rattle.image_walk.specs.Inodes.{Gathered}
use Rattle.image_walk.specs.Order.{NodesGrow}
use Rattle.image_walk.specs.Reads.{pointer_count}
use Rattle.image_walk.proofs.inodes.walk_inodes.Given as goal

abbrev pub invariant-loop-k : goal.invariant-loop-k
invariant-loop-k g l = record {
  part : IsTrue g.D.Disk.tells → (marks : List Mark) → (let read = blocks_in (g.D.Disk.state l.fn.disk).contents in Part (layout_of l.g) marks marks (blocks_met read 0 l.entries) (blocks_met read (64 * l.k) (drop l.k l.entries)));
  gathered : IsTrue g.D.Disk.tells → Gathered (blocks_in (g.D.Disk.state l.fn.disk).contents) l.entries l.k l.fn.nodes.items l.nodes.items;
  grows : NodesGrow 0 (64 * l.k) l.fn.nodes.items l.nodes.items;
  reads : (g.D.Disk.given l.disk).count + pointer_count (drop l.k l.entries) ≤ (g.D.Disk.given l.fn.disk).count + pointer_count l.entries;
  same : IsTrue g.D.Disk.tells → g.D.Disk.state l.disk ≡ g.D.Disk.state l.fn.disk;
  moments : IsTrue g.D.Disk.tells → Adds (g.D.Disk.past l.fn.disk) (g.D.Disk.past l.disk) (λ s. s ≡ g.D.Disk.state l.fn.disk);
  fixed : g.D.Disk.fixed l.disk ≡ g.D.Disk.fixed l.fn.disk;
  faults : g.D.Disk.faults l.disk ≡ g.D.Disk.faults l.fn.disk;
}
