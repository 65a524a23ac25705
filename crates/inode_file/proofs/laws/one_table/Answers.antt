use Rattle.inode_file.proofs.SpellLaws.{one_table}
use Rattle.inode_file.proofs.laws.one_table.Goals as goal

pub returns : goal.returns
returns c = one_table
