use Rattle.std.proofs.Common.{◌≡◌, ◌∙◌, ℕ, sym, ap, subst}
use Rattle.vol_numbers.specs.Geometry.{layout_of}
use Rattle.block_format.specs.Index.{IsPointer}
use Rattle.block_format.specs.Inode.{pointer_of}
use Rattle.block_format.proofs.InodeLaws.{inode_in-spelled}
use Rattle.std.proofs.lemmas.Bool.{false≢true}
use Rattle.block_format.proofs.inode.read_inode.Goals as goal

pub returns-else-is_pointer-clause-none : goal.returns-else-is_pointer-clause-none
returns-else-is_pointer-clause-none c = λ inode is.
    let read = c.in_ok-inode.inode in
    let same : read ≡ inode = sym (inode_in-spelled read _ c.in_ok-inode.ensures.found) ∙ inode_in-spelled inode _ is.is in
    let g = layout_of c.args.g.now in
    false≢true (c.if-is_pointer.ensures.1 (subst (λ (p : ℕ). IsPointer g p) (sym (c.pointer.ensures ∙ ap pointer_of same)) is.pointer))
