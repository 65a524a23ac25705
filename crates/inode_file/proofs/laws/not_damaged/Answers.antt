use Rattle.inode_file.proofs.DamageLaws.{not_damaged}
use Rattle.inode_file.proofs.laws.not_damaged.Goals as goal

pub returns : goal.returns
returns c = not_damaged
