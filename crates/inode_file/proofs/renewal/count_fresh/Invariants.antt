use Rattle.std.proofs.Common.{◌≡◌, ◌≤◌, ◌+◌, drop, length}
use Rattle.inode_file.specs.Inodes.{InodeTable}
use Rattle.inode_file.specs.Rewriting.{is_written, passing_from}
use Rattle.inode_file.proofs.renewal.count_fresh.Given as goal

abbrev pub invariant-loop-k : goal.invariant-loop-k
invariant-loop-k l =
    let t : InodeTable = record { inodes = l.inodes; stored = l.stored; pointers = l.pointers.ptrs; index = 0 } in
    record {
      counted : l.count + length (passing_from (is_written t) l.k (drop l.k l.pointers.ptrs)) ≡ length (passing_from (is_written t) 0 l.pointers.ptrs);
      at_most : l.count ≤ l.k;
    }
