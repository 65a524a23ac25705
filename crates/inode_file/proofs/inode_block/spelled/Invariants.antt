use Rattle.std.proofs.Common.{◌≡◌, ◌<◌, ℕ}
use Rattle.std.specs.Prelude.{Some}
use Rattle.block_format.specs.Inode.{inode_at, inode_part}
use Rattle.inode_file.specs.Inodes.{inode_of}
use Rattle.inode_file.proofs.inode_block.spelled.Given as goal

abbrev pub invariant-loop-j : goal.invariant-loop-j
invariant-loop-j l = (i : ℕ) → i < l.j → inode_at (inode_part i l.block.bytes) ≡ Some (inode_of l.inodes i)
