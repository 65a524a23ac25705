use Rattle.inode_file.proofs.SpellLaws.{table_stays}
use Rattle.inode_file.proofs.laws.table_stays.Goals as goal

pub returns : goal.returns
returns c = table_stays
