use Rattle.block_format.proofs.SlotLaws.{slot_in-bytes}
use Rattle.block_format.proofs.laws.slot_reads_back.Goals as goal

pub returns : goal.returns
returns c = slot_in-bytes c.args.slot.now c.requires
