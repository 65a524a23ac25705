use Rattle.std.proofs.Common.{◌≤◌, ◌+◌, subst, arith}
use Rattle.std.specs.Prelude.{slice_set}
use Rattle.inode_file.specs.Rewriting.{written_blocks}
use Rattle.inode_file.specs.Inodes.{InodeTable}
use Rattle.inode_file.proofs.TableLaws.{table_set, written_set}
use Rattle.inode_file.proofs.TakenLaws.{taken_set}
use Rattle.inode_file.proofs.table.InodeFile.set.Goals as goal

pub invariant_of-self : goal.invariant_of-self
invariant_of-self c =
    let s = c.self.inside in
    let t : InodeTable = record { inodes = s.inodes.items; stored = s.stored.items; pointers = s.pointers.ptrs; index = s.index } in (
      table_set t c.args.n c.args.inode (omega arith) c.requires.shape c.self.invariant.0,
      taken_set s.taken c.set.new.self s.inodes.items c.args.n c.args.inode c.is_taken.result (omega arith) c.is_taken.ensures c.self.invariant.1 c.set.ensures,
    )

pub returns-clause-whole : goal.returns-clause-whole
returns-clause-whole c =
    let s = c.self.inside in
    let t : InodeTable = record { inodes = s.inodes.items; stored = s.stored.items; pointers = s.pointers.ptrs; index = s.index } in
    table_set t c.args.n c.args.inode (omega arith) c.requires.shape c.self.invariant.0

pub returns-clause-changed : goal.returns-clause-changed
returns-clause-changed c =
    let s = c.self.inside in
    let t : InodeTable = record { inodes = s.inodes.items; stored = s.stored.items; pointers = s.pointers.ptrs; index = s.index } in
    subst (λ (old : InodeTable). written_blocks (record { inodes = slice_set s.inodes.items c.args.n c.args.inode; stored = s.stored.items; pointers = s.pointers.ptrs; index = s.index }) ≤ written_blocks old + 1) c.self.view_is
    (written_set t c.args.n c.args.inode)
