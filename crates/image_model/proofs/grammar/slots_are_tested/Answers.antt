use Rattle.image_model.proofs.SlotTests.{slots_are_tested}
use Rattle.image_model.proofs.grammar.slots_are_tested.Goals as goal

pub returns : goal.returns
returns c = slots_are_tested
