use Rattle.tree_model.proofs.RenameLaws.{renames_move}
use Rattle.tree_model.proofs.laws.renames_move.Goals as goal

pub returns : goal.returns
returns c = renames_move
