use Rattle.std.proofs.Common.{◌≡◌, ◌≤◌, ◌+◌, ◌*◌, IsTrue, length, drop}
use Rattle.vol_numbers.specs.Geometry.{layout_of}
use Rattle.vol_numbers.specs.Layout.{count_blocks}
use Rattle.disk_model.specs.Past.{Adds}
use Rattle.block_tree.specs.Tree.{blocks_in}
use Rattle.image_model.specs.Walk.{leaves_met}
use Rattle.image_walk.specs.Kept.{lasts_of}
use Rattle.image_walk.specs.Order.{KeepsOf}
use Rattle.image_walk.specs.Trees.{owner_met, Stretch}
use Rattle.image_walk.specs.Reads.{pointer_count}
use Rattle.image_walk.proofs.trees.walk_leaves.Given as goal

abbrev pub invariant-loop-k : goal.invariant-loop-k
invariant-loop-k g l = record {
  stretch : IsTrue g.D.Disk.tells → (let read = blocks_in (g.D.Disk.state l.fn.disk).contents in Stretch (layout_of l.g) l.fn.reached l.reached
      (leaves_met read (owner_met l.owner) l.owner.blocks 0 l.tops) (leaves_met read (owner_met l.owner) l.owner.blocks (1024 * l.k) (drop l.k l.tops))
      (lasts_of l.owner.blocks (leaves_met read (owner_met l.owner) l.owner.blocks 0 l.tops)) (lasts_of l.owner.blocks (leaves_met read (owner_met l.owner) l.owner.blocks (1024 * l.k) (drop l.k l.tops))));
  keeps : KeepsOf (layout_of l.g).blocks l.owner.number l.fn.reached l.reached;
  long : length l.reached.marks ≡ 1024 * count_blocks (layout_of l.g);
  reads : (g.D.Disk.given l.disk).count + pointer_count (drop l.k l.tops) ≤ (g.D.Disk.given l.fn.disk).count + pointer_count l.tops;
  same : IsTrue g.D.Disk.tells → g.D.Disk.state l.disk ≡ g.D.Disk.state l.fn.disk;
  moments : IsTrue g.D.Disk.tells → Adds (g.D.Disk.past l.fn.disk) (g.D.Disk.past l.disk) (λ s. s ≡ g.D.Disk.state l.fn.disk);
  fixed : g.D.Disk.fixed l.disk ≡ g.D.Disk.fixed l.fn.disk;
  faults : g.D.Disk.faults l.disk ≡ g.D.Disk.faults l.fn.disk;
}
