use Rattle.std.proofs.Common.{◌≡◌, ◌<◌, ◌≤◌, ◌-◌, ℕ, IsTrue, true, false}
use Rattle.disk_model.specs.Disk.{is_among}
use Rattle.disk_model.specs.Past.{Adds}
use Rattle.block_format.specs.Homes.{home_bit}
use Rattle.count_pairs.specs.Homes.{blocks_in, other_of}
use Rattle.count_pairs.specs.Table.{count_block, is_touched}
use Rattle.block_format.specs.Words.{words}
use Rattle.count_pairs.specs.Writing.{ChangesOnly, IsWritten}
use Rattle.count_pairs.proofs.writing.write_touched.Given as goal

abbrev pub invariant-loop-i : goal.invariant-loop-i
invariant-loop-i g l = record {
  stand : IsTrue g.D.Disk.tells → (j : ℕ) → j < l.i → is_touched l.touched j ≡ true → words (blocks_in (g.D.Disk.state l.disk).contents (other_of l.homes.bytes j)) ≡ count_block l.counts j;
  joined : IsTrue g.D.Disk.tells → (j : ℕ) → j < l.i → is_touched l.touched j ≡ true → is_among (g.D.Disk.state l.disk).unsynced (other_of l.homes.bytes j) ≡ true;
  written : (j : ℕ) → j < l.i → is_touched l.touched j ≡ true → home_bit l.new.bytes j ≡ 1 - home_bit l.homes.bytes j;
  others : (j : ℕ) → is_touched l.touched j ≡ false → home_bit l.new.bytes j ≡ home_bit l.homes.bytes j;
  rest : (j : ℕ) → l.i ≤ j → home_bit l.new.bytes j ≡ home_bit l.homes.bytes j;
  changes : IsTrue g.D.Disk.tells → ChangesOnly (IsWritten l.homes.bytes l.touched) (g.D.Disk.state l.fn.disk) (g.D.Disk.state l.disk);
  during : IsTrue g.D.Disk.tells → Adds (g.D.Disk.past l.fn.disk) (g.D.Disk.past l.disk) (ChangesOnly (IsWritten l.homes.bytes l.touched) (g.D.Disk.state l.fn.disk));
  fixed : g.D.Disk.fixed l.disk ≡ g.D.Disk.fixed l.fn.disk;
  given : g.D.Disk.given l.disk ≡ g.D.Disk.given l.fn.disk;
  faults : g.D.Disk.faults l.disk ≡ g.D.Disk.faults l.fn.disk;
}
