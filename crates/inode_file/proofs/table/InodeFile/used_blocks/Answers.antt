use Rattle.std.proofs.Common.{◌≡◌, ◌≤◌, ℕ, sym, ap, subst, ◌∙◌}
use Rattle.inode_file.specs.Counting.{used_positions}
use Rattle.inode_file.specs.Inodes.{InodeTable}
use Rattle.inode_file.specs.Rewriting.{written_blocks}
use Rattle.inode_file.proofs.CountingLaws.{written_most}
use Rattle.inode_file.proofs.table.InodeFile.used_blocks.Goals as goal

pub returns-clause-written : goal.returns-clause-written
returns-clause-written c =
    let s = c.self.inside in
    let t : InodeTable = record { inodes = s.inodes.items; stored = s.stored.items; pointers = s.pointers.ptrs; index = s.index } in
    let is : c.count_used.result ≡ used_positions s.inodes.items = c.count_used.ensures.is ∙ ap used_positions c.deref.ensures.value in
    subst (λ (x : InodeTable). written_blocks x ≤ c.count_used.result) c.self.view_is
    (subst (λ (n : ℕ). written_blocks t ≤ n) (sym is) (written_most t c.self.invariant.0.inodes c.self.invariant.0.pointers))
