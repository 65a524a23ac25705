use Rattle.std.proofs.Common.{◌∙◌, sym}
use Rattle.block_format.proofs.InodeLaws.{inode_in-spelled}
use Rattle.block_format.proofs.laws.same_inode.Goals as goal

pub returns : goal.returns
returns c = sym (inode_in-spelled c.args.inode c.args.bytes.now c.requires.inode) ∙ inode_in-spelled c.args.other c.args.bytes.now c.requires.other
