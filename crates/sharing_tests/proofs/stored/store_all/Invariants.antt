use Rattle.std.proofs.Common.{◌≡◌, IsTrue}
use Rattle.sequence_rule.specs.Matches.{LieBelow, HaveFingerprints}
use Rattle.sharing_tests.proofs.stored.store_all.Given as goal

abbrev pub invariant-loop-row : goal.invariant-loop-row
invariant-loop-row g l = record {
  blocks : LieBelow (g.D.Disk.fixed l.disk).size (g.K.ContentCache.list l.cache);
  fingerprints : IsTrue g.D.Disk.tells → HaveFingerprints (g.D.Disk.state l.disk).contents (g.K.ContentCache.list l.cache);
  fixed : g.D.Disk.fixed l.disk ≡ g.D.Disk.fixed l.fn.disk;
}
