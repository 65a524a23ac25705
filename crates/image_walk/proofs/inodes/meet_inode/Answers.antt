use Rattle.std.proofs.Common.{sym}
use Rattle.vol_numbers.specs.Geometry.{layout_of}
use Rattle.block_format.specs.Inode.{inode_part}
use Rattle.image_walk.proofs.InodeLaws.{inode_not}
use Rattle.image_walk.proofs.inodes.meet_inode.Goals as goal

pub meet_bad-requires-clause-outside : goal.meet_bad-requires-clause-outside
meet_bad-requires-clause-outside c = inode_not (inode_part c.args.k c.args.block.now.bytes) (sym c.in-None.ensures.exact)

pub returns-in-Some-clause-walked : goal.returns-in-Some-clause-walked
returns-in-Some-clause-walked c = c.meet_good.ensures.walked (layout_of c.args.g.now) (inode_part c.args.k c.args.block.now.bytes) (sym c.in-Some.ensures.exact)
