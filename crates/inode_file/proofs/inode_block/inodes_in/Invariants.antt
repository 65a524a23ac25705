use Rattle.std.proofs.Common.{◌≡◌, ◌<◌, ℕ, length}
use Rattle.std.specs.Prelude.{Some}
use Rattle.vol_numbers.specs.Geometry.{layout_of}
use Rattle.block_format.specs.Inode.{inode_at, inode_part}
use Rattle.inode_file.specs.Inodes.{inode_of}
use Rattle.inode_file.specs.Loading.{IsWhole}
use Rattle.inode_file.proofs.inode_block.inodes_in.Given as goal

abbrev pub invariant-loop-j : goal.invariant-loop-j
invariant-loop-j l = record {
  many : length l.inodes ≡ 64;
  spelled : (i : ℕ) → i < l.j → inode_at (inode_part i l.block.bytes) ≡ Some (inode_of l.inodes i);
  whole : (i : ℕ) → IsWhole (layout_of l.g) (inode_of l.inodes i);
}
