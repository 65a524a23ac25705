use Rattle.std.proofs.Common.{◌≡◌, ◌≤◌, IsTrue, take}
use Rattle.disk_model.specs.Past.{Adds}
use Rattle.sequence_rule.specs.Matched.{AreRowsOf}
use Rattle.sequence_rule.specs.Runs.{dirty_blocks}
use Rattle.sequence_rule.proofs.matching.match_all.Given as goal

abbrev pub invariant-loop-run : goal.invariant-loop-run
invariant-loop-run g l = record {
  rows : AreRowsOf g.D.Disk.tells (g.K.ContentCache.list l.cache) (g.D.Disk.state l.fn.disk).contents (dirty_blocks (take l.run-index l.dirty.runs)) l.rows.items;
  same : IsTrue g.D.Disk.tells → g.D.Disk.state l.disk ≡ g.D.Disk.state l.fn.disk;
  moments : IsTrue g.D.Disk.tells → Adds (g.D.Disk.past l.fn.disk) (g.D.Disk.past l.disk) (λ s. s ≡ g.D.Disk.state l.fn.disk);
  fixed : g.D.Disk.fixed l.disk ≡ g.D.Disk.fixed l.fn.disk;
  given : (g.D.Disk.given l.fn.disk).count ≤ (g.D.Disk.given l.disk).count;
  faults : g.D.Disk.faults l.disk ≡ g.D.Disk.faults l.fn.disk;
}
