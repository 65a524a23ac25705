use Rattle.std.proofs.Common.{◌≡◌, ℕ, length, get_or}
use Rattle.block_format.specs.declared.inode.Inode.TheVariants.{Unused}
use Rattle.volume_load.proofs.numbering.all_unused.Given as goal

abbrev pub invariant-loop-number : goal.invariant-loop-number
invariant-loop-number l = record {
  many : length l.inodes.items ≡ l._number;
  unused : (k : ℕ) → get_or l.inodes.items k Unused ≡ Unused;
}
