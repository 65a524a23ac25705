use Rattle.std.proofs.Common.{◌≡◌, ◌≤◌, ◌+◌, IsTrue, drop}
use Rattle.disk_model.specs.Past.{Adds}
use Rattle.block_tree.specs.Tree.{blocks_in}
use Rattle.image_model.specs.Nodes.{first_node}
use Rattle.image_model.specs.declared.finding.Finding.TheVariants.{BadTail}
use Rattle.image_walk.specs.Reads.{file_count}
use Rattle.name_check.specs.Tails.{node_has_tail}
use Rattle.name_check.proofs.tail_check.tails.Given as goal

abbrev pub invariant-loop-node : goal.invariant-loop-node
invariant-loop-node g l = record {
  none : IsTrue g.D.Disk.tells
      → first_node (node_has_tail (blocks_in (g.D.Disk.state l.fn.disk).contents) l.last_blocks) BadTail (drop l.node-index l.nodes) ≡ first_node (node_has_tail (blocks_in (g.D.Disk.state l.fn.disk).contents) l.last_blocks) BadTail l.nodes;
  reads : (g.D.Disk.given l.disk).count + file_count (drop l.node-index l.nodes) ≤ (g.D.Disk.given l.fn.disk).count + file_count l.nodes;
  same : IsTrue g.D.Disk.tells → g.D.Disk.state l.disk ≡ g.D.Disk.state l.fn.disk;
  moments : IsTrue g.D.Disk.tells → Adds (g.D.Disk.past l.fn.disk) (g.D.Disk.past l.disk) (λ s. s ≡ g.D.Disk.state l.fn.disk);
  fixed : g.D.Disk.fixed l.disk ≡ g.D.Disk.fixed l.fn.disk;
  faults : g.D.Disk.faults l.disk ≡ g.D.Disk.faults l.fn.disk;
}
