use Rattle.std.proofs.Common.{◌≡◌, ◌≤◌, ◌+◌}
use Rattle.inode_file.specs.Counting.{used_positions}
use Rattle.inode_file.proofs.CountingLaws.{left_from}
use Rattle.inode_file.proofs.renewal.count_used.Given as goal

abbrev pub invariant-loop-k : goal.invariant-loop-k
invariant-loop-k l = record {
  counted : l.count + left_from l.inodes l.k ≡ used_positions l.inodes;
  at_most : l.count ≤ l.k;
}
