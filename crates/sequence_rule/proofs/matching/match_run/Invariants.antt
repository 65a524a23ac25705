use Rattle.std.proofs.Common.{◌≡◌, ◌≤◌, ◌++◌, List, IsTrue, take}
use Rattle.disk_model.specs.Past.{Adds}
use Rattle.sequence_rule.specs.Matched.{AreRowsOf}
use Rattle.sequence_rule.specs.Runs.{DirtyBlock, blocks_from}
use Rattle.sequence_rule.proofs.matching.match_run.Given as goal

abbrev pub invariant-loop-n : goal.invariant-loop-n
invariant-loop-n g l = record {
  rows : (dirty : List DirtyBlock) → AreRowsOf g.D.Disk.tells (g.K.ContentCache.list l.cache) (g.D.Disk.state l.fn.disk).contents dirty l.fn.rows.items
      → AreRowsOf g.D.Disk.tells (g.K.ContentCache.list l.cache) (g.D.Disk.state l.fn.disk).contents (dirty ++ blocks_from l.run.first (take l.n l.run.blocks)) l.rows.items;
  same : IsTrue g.D.Disk.tells → g.D.Disk.state l.disk ≡ g.D.Disk.state l.fn.disk;
  moments : IsTrue g.D.Disk.tells → Adds (g.D.Disk.past l.fn.disk) (g.D.Disk.past l.disk) (λ s. s ≡ g.D.Disk.state l.fn.disk);
  fixed : g.D.Disk.fixed l.disk ≡ g.D.Disk.fixed l.fn.disk;
  given : (g.D.Disk.given l.fn.disk).count ≤ (g.D.Disk.given l.disk).count;
  faults : g.D.Disk.faults l.disk ≡ g.D.Disk.faults l.fn.disk;
}
