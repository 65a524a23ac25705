use Rattle.std.proofs.Common.{◌≡◌, ◌≤◌, ◌+◌, ◌*◌, IsTrue, length}
use Rattle.disk_model.specs.Past.{Adds}
use Rattle.count_pairs.specs.Homes.{blocks_in}
use Rattle.count_pairs.specs.Loading.{GivesLast}
use Rattle.count_pairs.specs.Table.{AllStand}
use Rattle.count_pairs.proofs.loading.read_table.Given as goal

abbrev pub invariant-loop-i : goal.invariant-loop-i
invariant-loop-i g l = record {
  stand : IsTrue g.D.Disk.tells → AllStand (blocks_in (g.D.Disk.state l.fn.disk).contents) l.body.homes.bytes l.i l.counts.items;
  long : length l.counts.items ≡ 1024 * l.i;
  given : 1 ≤ l.i → GivesLast (g.D.Disk.given l.disk) l.body.homes.bytes l.i l.counts.items;
  reads : (g.D.Disk.given l.disk).count ≤ (g.D.Disk.given l.fn.disk).count + l.i;
  same : IsTrue g.D.Disk.tells → g.D.Disk.state l.disk ≡ g.D.Disk.state l.fn.disk;
  moments : IsTrue g.D.Disk.tells → Adds (g.D.Disk.past l.fn.disk) (g.D.Disk.past l.disk) (λ s. s ≡ g.D.Disk.state l.fn.disk);
  fixed : g.D.Disk.fixed l.disk ≡ g.D.Disk.fixed l.fn.disk;
  faults : g.D.Disk.faults l.disk ≡ g.D.Disk.faults l.fn.disk;
}
