use Rattle.std.proofs.Common.{◌≡◌, ◌≤◌, ◌+◌, ◌*◌, IsTrue, length, drop}
use Rattle.std.specs.List.{flat_map}
use Rattle.vol_numbers.specs.Geometry.{layout_of}
use Rattle.vol_numbers.specs.Layout.{count_blocks}
use Rattle.disk_model.specs.Past.{Adds}
use Rattle.block_tree.specs.Tree.{blocks_in}
use Rattle.image_model.specs.Walk.{node_met}
use Rattle.image_walk.specs.Kept.{all_lasts}
use Rattle.image_walk.specs.Order.{InOrder}
use Rattle.image_walk.specs.Reads.{metadata_count}
use Rattle.image_walk.specs.Trees.{Stretch}
use Rattle.image_walk.proofs.trees.walk_trees.Given as goal

abbrev pub invariant-loop-node : goal.invariant-loop-node
invariant-loop-node g l = record {
  stretch : IsTrue g.D.Disk.tells → (let read = blocks_in (g.D.Disk.state l.fn.disk).contents in Stretch (layout_of l.g) l.fn.reached l.reached
      (flat_map (node_met read) l.nodes) (flat_map (node_met read) (drop l.node-index l.nodes)) (all_lasts read l.nodes) (all_lasts read (drop l.node-index l.nodes)));
  order : InOrder (layout_of l.g).blocks (drop l.node-index l.nodes) l.reached;
  long : length l.reached.marks ≡ 1024 * count_blocks (layout_of l.g);
  reads : IsTrue g.D.Disk.tells → (let read = blocks_in (g.D.Disk.state l.fn.disk).contents in
      (g.D.Disk.given l.disk).count + metadata_count (flat_map (node_met read) (drop l.node-index l.nodes)) ≤ (g.D.Disk.given l.fn.disk).count + metadata_count (flat_map (node_met read) l.nodes));
  same : IsTrue g.D.Disk.tells → g.D.Disk.state l.disk ≡ g.D.Disk.state l.fn.disk;
  moments : IsTrue g.D.Disk.tells → Adds (g.D.Disk.past l.fn.disk) (g.D.Disk.past l.disk) (λ s. s ≡ g.D.Disk.state l.fn.disk);
  fixed : g.D.Disk.fixed l.disk ≡ g.D.Disk.fixed l.fn.disk;
  faults : g.D.Disk.faults l.disk ≡ g.D.Disk.faults l.fn.disk;
}
