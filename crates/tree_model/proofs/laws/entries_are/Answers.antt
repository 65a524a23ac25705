use Rattle.tree_model.proofs.EntryLaws.{entries_are}
use Rattle.tree_model.proofs.laws.entries_are.Goals as goal

pub returns : goal.returns
returns c = entries_are
