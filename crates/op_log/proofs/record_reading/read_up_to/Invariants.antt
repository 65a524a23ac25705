use Rattle.std.proofs.Common.{◌≡◌, ◌≤◌, ◌+◌, ◌*◌, IsTrue, length, take}
use Rattle.disk_model.specs.Past.{Adds}
use Rattle.op_log.specs.Reading.{AreBlocks}
use Rattle.op_log.proofs.record_reading.read_up_to.Given as goal

abbrev pub invariant-loop-i : goal.invariant-loop-i
invariant-loop-i g l = record {
  long : length l.bytes.items ≡ 4096 * l.i;
  front : take (4096 * l.done) l.bytes.items ≡ l.fn.bytes.items;
  blocks : IsTrue g.D.Disk.tells → AreBlocks (g.D.Disk.state l.fn.disk).contents l.at l.i l.bytes.items;
  reads : (g.D.Disk.given l.disk).count + l.done ≤ (g.D.Disk.given l.fn.disk).count + l.i;
  same : IsTrue g.D.Disk.tells → g.D.Disk.state l.disk ≡ g.D.Disk.state l.fn.disk;
  moments : IsTrue g.D.Disk.tells → Adds (g.D.Disk.past l.fn.disk) (g.D.Disk.past l.disk) (λ s. s ≡ g.D.Disk.state l.fn.disk);
  fixed : g.D.Disk.fixed l.disk ≡ g.D.Disk.fixed l.fn.disk;
  faults : g.D.Disk.faults l.disk ≡ g.D.Disk.faults l.fn.disk;
}
