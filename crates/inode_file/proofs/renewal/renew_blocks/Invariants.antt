use Rattle.std.proofs.Common.{◌≤◌, ◌+◌, drop, length}
use Rattle.inode_file.specs.Inodes.{InodeTable}
use Rattle.inode_file.specs.Rewriting.{is_written, passing_from}
use Rattle.inode_file.specs.Renewal.{AreRenewed}
use Rattle.inode_file.proofs.renewal.renew_blocks.Given as goal

abbrev pub invariant-loop-k : goal.invariant-loop-k
invariant-loop-k l =
    let t : InodeTable = record { inodes = l.inodes; stored = l.stored; pointers = l.fn.pointers.ptrs; index = 0 } in
    record {
      renewed : AreRenewed t l.k l.pointers.ptrs l.fn.free l.free l.fn.notes l.notes;
      room : length (passing_from (is_written t) l.k (drop l.k t.pointers)) + 1 ≤ length l.free;
    }
