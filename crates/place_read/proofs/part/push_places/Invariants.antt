use Rattle.std.proofs.Common.{◌≡◌, ◌<◌, ◌≤◌, ◌*◌, ◌+◌, ◌-◌, ℕ, IsTrue, length}
use Rattle.std.specs.Prelude.{min}
use Rattle.disk_model.specs.Past.{Adds}
use Rattle.place_read.specs.Holding.{HoldsFiles}
use Rattle.place_read.specs.Part.{end_of}
use Rattle.place_read.proofs.PartLaws.{AreFrom}
use Rattle.place_read.proofs.part.push_places.Given as goal
use Rattle.volume_model.specs.Machine.{Machine, Rules, bytes_numbered}

abbrev pub invariant-loop-place : goal.invariant-loop-place
invariant-loop-place g l = record {
  many : length l.bytes.items ≡ min (end_of l.part) (4096 * l.place) - l.part.offset;
  read : IsTrue g.D.Disk.tells → (r : Rules) (m : Machine) → HoldsFiles r m (g.D.Disk.state l.fn.disk).contents l.inodes l.dirty.overlay → AreFrom (bytes_numbered l.part.number m.tree) l.part.offset l.bytes.items;
  same : IsTrue g.D.Disk.tells → g.D.Disk.state l.disk ≡ g.D.Disk.state l.fn.disk;
  moments : IsTrue g.D.Disk.tells → Adds (g.D.Disk.past l.fn.disk) (g.D.Disk.past l.disk) (λ s. s ≡ g.D.Disk.state l.fn.disk);
  fixed : g.D.Disk.fixed l.disk ≡ g.D.Disk.fixed l.fn.disk;
  given : (g.D.Disk.given l.fn.disk).count ≤ (g.D.Disk.given l.disk).count;
  faults : g.D.Disk.faults l.disk ≡ g.D.Disk.faults l.fn.disk;
}
