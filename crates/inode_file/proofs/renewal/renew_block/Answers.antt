use Rattle.std.proofs.Common.{◌∙◌, sym}
use Rattle.inode_file.proofs.RenewalLaws.{renewed_none, renewed_kept, renewed_fresh}
use Rattle.inode_file.proofs.renewal.renew_block.Goals as goal

pub returns-then-not-has_used : goal.returns-then-not-has_used
returns-then-not-has_used c = rw c.in_ok-remove.ensures (renewed_none c.args.old c.args.was.now c.args.inodes.now c.args.free.now c.args.notes.now (sym c.has_used.ensures ∙ c.if-not-has_used.true))

pub returns-then-is_current : goal.returns-then-is_current
returns-then-is_current c = renewed_kept c.args.old c.args.was.now c.args.inodes.now c.args.free.now c.args.notes.now (sym c.has_used.ensures ∙ c.if-not-has_used.false) (sym c.is_current.ensures ∙ c.if-is_current.true)

pub returns : goal.returns
returns c =
    rw (c.in_ok-write.ensures, c.in_ok-remove-2.ensures)
    (renewed_fresh c.args.old c.args.was.now c.args.inodes.now c.args.free.now c.args.notes.now c.take_one-at.result c.take_one-at.new.self c.spelled.result
    (sym c.has_used.ensures ∙ c.if-not-has_used.false) (sym c.is_current.ensures ∙ c.if-is_current.false) c.take_one-at.ensures.positive c.take_one-at.ensures.lowest c.spelled.ensures)
