use Rattle.volume_model.proofs.LegalLaws.{next_tree}
use Rattle.volume_model.proofs.laws.next_tree.Goals as goal

pub returns : goal.returns
returns c = next_tree
