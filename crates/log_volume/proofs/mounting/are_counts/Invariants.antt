use Rattle.std.proofs.Common.{◌≡◌, ◌<◌, ◌+◌, ◌*◌, ℕ, IsTrue}
use Rattle.std.specs.Prelude.{slice_get, Some}
use Rattle.vol_numbers.specs.Geometry.{layout_of}
use Rattle.disk_model.specs.Past.{Adds}
use Rattle.volume_format.specs.Blocks.{count_block}
use Rattle.log_volume.proofs.mounting.are_counts.Given as goal

abbrev pub invariant-loop-i : goal.invariant-loop-i
invariant-loop-i g l = record {
  so_far : IsTrue g.D.Disk.tells → (i : ℕ) → i < l.i → slice_get (g.D.Disk.state l.fn.disk).contents (3 + 2 * i) ≡ Some (count_block (layout_of l.g) i);
  same : IsTrue g.D.Disk.tells → g.D.Disk.state l.disk ≡ g.D.Disk.state l.fn.disk;
  moments : IsTrue g.D.Disk.tells → Adds (g.D.Disk.past l.fn.disk) (g.D.Disk.past l.disk) (λ s. s ≡ g.D.Disk.state l.fn.disk);
  fixed : g.D.Disk.fixed l.disk ≡ g.D.Disk.fixed l.fn.disk;
  faults : g.D.Disk.faults l.disk ≡ g.D.Disk.faults l.fn.disk;
}
