use Rattle.std.proofs.Common.{◌≡◌, drop}
use Rattle.inode_file.specs.Rewriting.{has_used}
use Rattle.inode_file.proofs.inode_block.has_used.Given as goal

abbrev pub invariant-loop-inode : goal.invariant-loop-inode
invariant-loop-inode l = has_used (drop l.inode-index l.inodes) ≡ has_used l.inodes
