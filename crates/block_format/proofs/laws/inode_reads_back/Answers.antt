use Rattle.block_format.proofs.InodeLaws.{inode_in-bytes}
use Rattle.block_format.proofs.laws.inode_reads_back.Goals as goal

pub returns : goal.returns
returns c = inode_in-bytes c.args.inode c.requires c.spelled-bytes.ensures.number
