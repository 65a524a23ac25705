use Rattle.std.proofs.Common.{List, subst}
use Rattle.block_format.specs.declared.inode.Inode.{Inode}
use Rattle.inode_file.specs.Inodes.{InodeTable}
use Rattle.inode_file.specs.Renewal.{AreRenewed, IsPlanned, all_written}
use Rattle.inode_file.proofs.TableLaws.{planned}
use Rattle.inode_file.proofs.table.InodeFile.plan.Goals as goal

pub returns : goal.returns
returns c =
    let s = c.self.inside in
    let t : InodeTable = record { inodes = s.inodes.items; stored = s.stored.items; pointers = s.pointers.ptrs; index = s.index } in
    let pointers = c.renew_blocks.new.pointers.ptrs in
    let stored = subst (λ (xs : List Inode). AreRenewed (record { inodes = c.deref.result.now; stored = xs; pointers = s.pointers.ptrs; index = 0 }) 1024 pointers c.args.free.now c.renew_blocks.new.free c.args.notes.now c.renew_blocks.new.notes)
    c.deref-2.ensures.value c.in_ok-renew_blocks.ensures.renewed in
    let blocks = subst (λ (xs : List Inode). AreRenewed (record { inodes = xs; stored = s.stored.items; pointers = s.pointers.ptrs; index = 0 }) 1024 pointers c.args.free.now c.renew_blocks.new.free c.args.notes.now c.renew_blocks.new.notes)
    c.deref.ensures.value stored in
    subst (λ (old : InodeTable). IsPlanned old (all_written old pointers c.in_ok-index.index) c.args.free.now c.renew_index.new.free c.args.notes.now c.renew_index.new.notes) c.self.view_is
    (planned t pointers c.in_ok-index.index c.args.free.now c.renew_blocks.new.free c.renew_index.new.free c.args.notes.now c.renew_blocks.new.notes c.renew_index.new.notes c.self.invariant.0 blocks c.in_ok-index.ensures)
