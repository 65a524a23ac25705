use Rattle.point_space.proofs.OldNodes.{old_inode_blocks_are}
use Rattle.point_space.proofs.laws.old_inode_blocks_are.Goals as goal

pub returns : goal.returns
returns c = old_inode_blocks_are c.at_rest.ensures
