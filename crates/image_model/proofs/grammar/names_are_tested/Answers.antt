use Rattle.image_model.proofs.SlotTests.{names_are_tested}
use Rattle.image_model.proofs.grammar.names_are_tested.Goals as goal

pub returns : goal.returns
returns c = names_are_tested
