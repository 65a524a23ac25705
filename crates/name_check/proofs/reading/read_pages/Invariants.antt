use Rattle.std.proofs.Common.{◌≡◌, ◌≤◌, ◌+◌, IsTrue, length, take}
use Rattle.disk_model.specs.Past.{Adds}
use Rattle.block_tree.specs.Tree.{blocks_in}
use Rattle.name_check.specs.Directories.{HaveBytes}
use Rattle.name_check.proofs.reading.read_pages.Given as goal

abbrev pub invariant-loop-there : goal.invariant-loop-there
invariant-loop-there g l = record {
  count : length l.pages.items ≡ l.there-index;
  bytes : IsTrue g.D.Disk.tells → HaveBytes (blocks_in (g.D.Disk.state l.fn.disk).contents) (take l.there-index l.own) l.pages.items;
  reads : (g.D.Disk.given l.disk).count ≤ (g.D.Disk.given l.fn.disk).count + l.there-index;
  same : IsTrue g.D.Disk.tells → g.D.Disk.state l.disk ≡ g.D.Disk.state l.fn.disk;
  moments : IsTrue g.D.Disk.tells → Adds (g.D.Disk.past l.fn.disk) (g.D.Disk.past l.disk) (λ s. s ≡ g.D.Disk.state l.fn.disk);
  fixed : g.D.Disk.fixed l.disk ≡ g.D.Disk.fixed l.fn.disk;
  faults : g.D.Disk.faults l.disk ≡ g.D.Disk.faults l.fn.disk;
}
