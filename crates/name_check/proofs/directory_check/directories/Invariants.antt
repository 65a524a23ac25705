use Rattle.std.proofs.Common.{◌≡◌, ◌≤◌, ◌+◌, IsTrue, drop, map, take}
use Rattle.disk_model.specs.Past.{Adds}
use Rattle.block_tree.specs.Tree.{blocks_in}
use Rattle.image_model.specs.Nodes.{first_node}
use Rattle.image_model.specs.declared.finding.Finding.TheVariants.{BadDirectory}
use Rattle.place_words.specs.Different.{total}
use Rattle.name_check.specs.Directories.{AreHeld, AreWide, is_bad}
use Rattle.name_check.specs.Seeing.{directory_numbers}
use Rattle.name_check.proofs.OnceLaws.{own_count, node_numbers}
use Rattle.name_check.proofs.directory_check.directories.Given as goal

abbrev pub invariant-loop-node : goal.invariant-loop-node
invariant-loop-node g l = record {
  none : IsTrue g.D.Disk.tells
      → first_node (is_bad (blocks_in (g.D.Disk.state l.fn.disk).contents) l.pages) BadDirectory (drop l.node-index l.nodes) ≡ first_node (is_bad (blocks_in (g.D.Disk.state l.fn.disk).contents) l.pages) BadDirectory l.nodes;
  numbers : map (λ h. h.number) l.held ≡ directory_numbers (take l.node-index l.nodes);
  wide : AreWide (take l.node-index l.nodes) l.held;
  held : IsTrue g.D.Disk.tells → AreHeld (blocks_in (g.D.Disk.state l.fn.disk).contents) l.pages (take l.node-index l.nodes) l.held;
  reads : (g.D.Disk.given l.disk).count + total (own_count l.pages) (node_numbers (drop l.node-index l.nodes)) ≤ (g.D.Disk.given l.fn.disk).count + total (own_count l.pages) (node_numbers l.nodes);
  same : IsTrue g.D.Disk.tells → g.D.Disk.state l.disk ≡ g.D.Disk.state l.fn.disk;
  moments : IsTrue g.D.Disk.tells → Adds (g.D.Disk.past l.fn.disk) (g.D.Disk.past l.disk) (λ s. s ≡ g.D.Disk.state l.fn.disk);
  fixed : g.D.Disk.fixed l.disk ≡ g.D.Disk.fixed l.fn.disk;
  faults : g.D.Disk.faults l.disk ≡ g.D.Disk.faults l.fn.disk;
}
