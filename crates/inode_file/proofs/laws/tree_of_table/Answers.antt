use Rattle.inode_file.proofs.SpellLaws.{tree_of_table}
use Rattle.inode_file.proofs.laws.tree_of_table.Goals as goal

pub returns : goal.returns
returns c = tree_of_table
