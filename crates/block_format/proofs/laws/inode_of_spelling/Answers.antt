use Rattle.block_format.proofs.InodeLaws.{inode_in-spelled}
use Rattle.block_format.proofs.laws.inode_of_spelling.Goals as goal

pub returns : goal.returns
returns c = inode_in-spelled c.args.inode c.args.bytes.now c.requires
