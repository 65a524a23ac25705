use Rattle.std.proofs.Common.{◌≡◌, ◌≤◌, ◌+◌, IsTrue, length}
use Rattle.std.specs.Prelude.{All}
use Rattle.vol_numbers.specs.Layout.{log_start}
use Rattle.disk_model.specs.Past.{Adds}
use Rattle.block_format.specs.Root.{root_of}
use Rattle.op_log.specs.Log.{HoldsRecords, blocks_of}
use Rattle.op_log.specs.Record.{HasRecord}
use Rattle.op_log.proofs.reading.read_all.Given as goal

abbrev pub invariant-loop-i : goal.invariant-loop-i
invariant-loop-i g l = record {
  holds : IsTrue g.D.Disk.tells → HoldsRecords (g.D.Disk.state l.fn.disk).contents (log_start (root_of l.body).layout) l.body.log_used l.commands.items;
  count : length l.commands.items ≡ l.i;
  have_records : All HasRecord l.commands.items;
  within : blocks_of l.commands.items ≤ l.body.log_used;
  used : l.used ≡ blocks_of l.commands.items;
  reads : (g.D.Disk.given l.disk).count ≤ (g.D.Disk.given l.fn.disk).count + l.used;
  same : IsTrue g.D.Disk.tells → g.D.Disk.state l.disk ≡ g.D.Disk.state l.fn.disk;
  moments : IsTrue g.D.Disk.tells → Adds (g.D.Disk.past l.fn.disk) (g.D.Disk.past l.disk) (λ s. s ≡ g.D.Disk.state l.fn.disk);
  fixed : g.D.Disk.fixed l.disk ≡ g.D.Disk.fixed l.fn.disk;
  faults : g.D.Disk.faults l.disk ≡ g.D.Disk.faults l.fn.disk;
}
