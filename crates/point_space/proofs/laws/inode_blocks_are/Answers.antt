use Rattle.point_space.proofs.InodeBlocks.{inode_blocks_are}
use Rattle.point_space.proofs.laws.inode_blocks_are.Goals as goal

pub returns : goal.returns
returns c = inode_blocks_are
