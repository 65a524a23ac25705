use Rattle.std.proofs.Common.{◌≡◌, ◌<◌, ◌+◌, ◌++◌, ℕ, IsTrue, true}
use Rattle.std.specs.Prelude.{slice_get, Some}
use Rattle.disk_model.specs.Disk.{is_among}
use Rattle.disk_model.specs.Past.{Adds}
use Rattle.op_log.specs.Record.{text_block}
use Rattle.op_log.specs.Append.{ChangesWithin}
use Rattle.op_log.proofs.appending.write_blocks.Given as goal

abbrev pub invariant-loop-i : goal.invariant-loop-i
invariant-loop-i g l = record {
  stand : IsTrue g.D.Disk.tells → (k : ℕ) → k < l.i → slice_get (g.D.Disk.state l.disk).contents (l.first + k) ≡ Some (text_block (l.spelling.head.items ++ l.spelling.payload.now) k);
  joined : IsTrue g.D.Disk.tells → (k : ℕ) → k < l.i → is_among (g.D.Disk.state l.disk).unsynced (l.first + k) ≡ true;
  changes : IsTrue g.D.Disk.tells → ChangesWithin l.first l.count (g.D.Disk.state l.fn.disk) (g.D.Disk.state l.disk);
  during : IsTrue g.D.Disk.tells → Adds (g.D.Disk.past l.fn.disk) (g.D.Disk.past l.disk) (ChangesWithin l.first l.count (g.D.Disk.state l.fn.disk));
  fixed : g.D.Disk.fixed l.disk ≡ g.D.Disk.fixed l.fn.disk;
  given : g.D.Disk.given l.disk ≡ g.D.Disk.given l.fn.disk;
  faults : g.D.Disk.faults l.disk ≡ g.D.Disk.faults l.fn.disk;
}
