use Rattle.std.proofs.lemmas.Bool.{false≢true}
use Rattle.std.proofs.Common.{◌≡◌, ◌∙◌, ap, sym}
use Rattle.block_format.specs.Inode.{inode_bytes}
use Rattle.block_format.proofs.InodeLaws.{inode_in-spelled}
use Rattle.block_format.proofs.inode.inode_of.Goals as goal

pub returns-in_err-inode-clause-none : goal.returns-in_err-inode-clause-none
returns-in_err-inode-clause-none c = rw c.from_residual.ensures (λ inode is. let e = inode_in-spelled inode c.args.bytes.now is in cc (is.shape, c.in_err-inode.ensures.none))

pub returns-then-not-has_shape-clause-none : goal.returns-then-not-has_shape-clause-none
returns-then-not-has_shape-clause-none c = λ inode is. let e = inode_in-spelled inode c.args.bytes.now is in cc (is.shape, c.in_ok-inode.ensures.found, c.if-not-has_shape.ensures)

pub returns-then-not-is_same-clause-none : goal.returns-then-not-is_same-clause-none
returns-then-not-is_same-clause-none c = λ inode is. let e = inode_in-spelled inode c.args.bytes.now is in
    let same : c.in_ok-inode.inode ≡ inode = c.in_ok-inode.ensures.found ∙ e in
    false≢true (c.if-not-is_same.ensures.is.1 (c.spelled.ensures.spelled ∙ ap inode_bytes same ∙ sym is.spelled))
