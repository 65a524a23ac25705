use Rattle.block_tree.proofs.PortionLaws.{both_ends}
use Rattle.block_tree.proofs.portion.portion_of.Goals as goal

pub returns : goal.returns
returns c = rw (c.leaves_up_to.ensures, c.leaves_from.ensures.from) (both_ends c.args.k c.args.changes.now)
