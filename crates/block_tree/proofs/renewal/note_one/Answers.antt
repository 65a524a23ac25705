use Rattle.block_tree.proofs.NoteLaws.{noted_same, noted_change}
use Rattle.block_tree.proofs.renewal.note_one.Goals as goal

pub returns-then-old-new : goal.returns-then-old-new
returns-then-old-new c = noted_same c.args.old c.args.new c.args.notes.now c.if-old-new.true

pub returns : goal.returns
returns c = rw (c.in_ok-add.ensures, c.in_ok-remove.ensures) (noted_change c.args.old c.args.new c.args.notes.now c.if-old-new.false)
