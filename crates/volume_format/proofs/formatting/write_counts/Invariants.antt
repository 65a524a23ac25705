use Rattle.std.proofs.Common.{◌≡◌}
use Rattle.std.specs.Prelude.{IsTrue}
use Rattle.vol_numbers.specs.Geometry.{layout_of}
use Rattle.disk_model.specs.Past.{Adds}
use Rattle.volume_format.specs.Formatting.{with_counts, KeepsSelector}
use Rattle.volume_format.proofs.formatting.write_counts.Given as goal

abbrev pub invariant-loop-i : goal.invariant-loop-i
invariant-loop-i g l = record {
  state : IsTrue g.D.Disk.tells → g.D.Disk.state l.disk ≡ with_counts (layout_of l.g) l.i (g.D.Disk.state l.fn.disk);
  moments : IsTrue g.D.Disk.tells → Adds (g.D.Disk.past l.fn.disk) (g.D.Disk.past l.disk) (KeepsSelector (g.D.Disk.state l.fn.disk));
  fixed : g.D.Disk.fixed l.disk ≡ g.D.Disk.fixed l.fn.disk;
  faults : g.D.Disk.faults l.disk ≡ g.D.Disk.faults l.fn.disk;
}
