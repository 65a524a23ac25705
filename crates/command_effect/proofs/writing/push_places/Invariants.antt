use Rattle.std.proofs.Common.{◌≡◌, ◌≤◌, ◌-◌, ◌/◌, IsTrue, length}
use Rattle.disk_model.specs.Past.{Adds}
use Rattle.command_effect.specs.Blocks.{AreFrom, IsWrittenBlock}
use Rattle.command_effect.proofs.writing.push_places.Given as goal

abbrev pub invariant-loop-place : goal.invariant-loop-place
invariant-loop-place g l = record {
  many : length l.touched.items ≡ l.place - l.offset / 4096;
  are : AreFrom (IsWrittenBlock g.D.Disk.tells (g.D.Disk.state l.fn.disk).contents l.inodes l.dirty.overlay l.number l.offset l.given) (l.offset / 4096) l.touched.items;
  same : IsTrue g.D.Disk.tells → g.D.Disk.state l.disk ≡ g.D.Disk.state l.fn.disk;
  moments : IsTrue g.D.Disk.tells → Adds (g.D.Disk.past l.fn.disk) (g.D.Disk.past l.disk) (λ s. s ≡ g.D.Disk.state l.fn.disk);
  fixed : g.D.Disk.fixed l.disk ≡ g.D.Disk.fixed l.fn.disk;
  given : (g.D.Disk.given l.fn.disk).count ≤ (g.D.Disk.given l.disk).count;
  faults : g.D.Disk.faults l.disk ≡ g.D.Disk.faults l.fn.disk;
}
