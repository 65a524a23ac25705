use Rattle.std.proofs.Common.{◌≡◌, ◌<◌, ℕ, IsTrue, get_or}
use Rattle.disk_model.specs.Past.{Adds}
use Rattle.block_tree.specs.Notes.{Stand}
use Rattle.block_tree.specs.Tree.{blocks_in}
use Rattle.count_pairs.specs.Writing.{ChangesOnly}
use Rattle.place_words.specs.Different.{Distinct}
use Rattle.point_plan.specs.declared.planned_node.PlannedNode.{PlannedNode}
use Rattle.consistency_point.specs.Writing.{IsOneOf, blocks_of_nodes}
use Rattle.consistency_point.proofs.blocks.write_nodes.Given as goal

abbrev pub invariant-loop-node : goal.invariant-loop-node
invariant-loop-node g l = record {
  stand : IsTrue g.D.Disk.tells → Distinct (blocks_of_nodes l.nodes) → (k : ℕ) (d : PlannedNode) → k < l.node-index → Stand (get_or l.nodes k d).pages (blocks_in (g.D.Disk.state l.disk).contents);
  changes : IsTrue g.D.Disk.tells → ChangesOnly (IsOneOf (blocks_of_nodes l.nodes)) (g.D.Disk.state l.fn.disk) (g.D.Disk.state l.disk);
  during : IsTrue g.D.Disk.tells → Adds (g.D.Disk.past l.fn.disk) (g.D.Disk.past l.disk) (ChangesOnly (IsOneOf (blocks_of_nodes l.nodes)) (g.D.Disk.state l.fn.disk));
  fixed : g.D.Disk.fixed l.disk ≡ g.D.Disk.fixed l.fn.disk;
  given : g.D.Disk.given l.disk ≡ g.D.Disk.given l.fn.disk;
  faults : g.D.Disk.faults l.disk ≡ g.D.Disk.faults l.fn.disk;
}
