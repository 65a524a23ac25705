use Rattle.std.proofs.Common.{◌∙◌, sym}
use Rattle.block_format.proofs.SlotLaws.{slot_in-spelled}
use Rattle.block_format.proofs.laws.same_slot.Goals as goal

pub returns : goal.returns
returns c = sym (slot_in-spelled c.args.slot.now c.args.bytes.now c.requires.slot) ∙ slot_in-spelled c.args.other.now c.args.bytes.now c.requires.other
