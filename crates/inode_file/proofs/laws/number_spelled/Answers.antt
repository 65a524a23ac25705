use Rattle.inode_file.proofs.SpellLaws.{number_spelled}
use Rattle.inode_file.proofs.laws.number_spelled.Goals as goal

pub returns : goal.returns
returns c = number_spelled
