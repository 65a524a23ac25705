use Rattle.std.proofs.Common.{◌≡◌, ◌<◌, ◌+◌, ℕ, Some, IsTrue}
use Rattle.std.specs.FinMap.{find}
use Rattle.vol_numbers.specs.declared.block.Block.{Block}
use Rattle.disk_model.specs.Past.{Adds}
use Rattle.block_tree.specs.Tree.{blocks_in}
use Rattle.count_pairs.specs.Writing.{ChangesOnly}
use Rattle.volume_model.specs.Places.{spot_cmp}
use Rattle.consistency_point.specs.Writing.{IsBlockOf}
use Rattle.consistency_point.proofs.writing.write_line.Given as goal

abbrev pub invariant-loop-k : goal.invariant-loop-k
invariant-loop-k g l = record {
  stand : IsTrue g.D.Disk.tells → (j : ℕ) (staged : Block) → j < l.k → find spot_cmp (l.line.number, l.line.place + j) l.dirty.overlay.blocks ≡ Some staged → blocks_in (g.D.Disk.state l.disk).contents (l.line.block + j) ≡ staged.bytes;
  changes : IsTrue g.D.Disk.tells → ChangesOnly (IsBlockOf l.line) (g.D.Disk.state l.fn.disk) (g.D.Disk.state l.disk);
  during : IsTrue g.D.Disk.tells → Adds (g.D.Disk.past l.fn.disk) (g.D.Disk.past l.disk) (ChangesOnly (IsBlockOf l.line) (g.D.Disk.state l.fn.disk));
  fixed : g.D.Disk.fixed l.disk ≡ g.D.Disk.fixed l.fn.disk;
  given : g.D.Disk.given l.disk ≡ g.D.Disk.given l.fn.disk;
  faults : g.D.Disk.faults l.disk ≡ g.D.Disk.faults l.fn.disk;
}
