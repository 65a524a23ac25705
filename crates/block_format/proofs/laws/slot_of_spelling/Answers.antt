use Rattle.block_format.proofs.SlotLaws.{slot_in-spelled}
use Rattle.block_format.proofs.laws.slot_of_spelling.Goals as goal

pub returns : goal.returns
returns c = slot_in-spelled c.args.slot.now c.args.bytes.now c.requires
