use Rattle.std.proofs.Common.{◌≡◌, ◌∙◌, ◌*◌, ◌+◌, ap, arith}
use Rattle.block_format.specs.Slot.{slot_in, slot_bytes, slot_part}
use Rattle.block_format.proofs.PartLaws.{with_part, renamed, part_put, part_apart, apart_256}
use Rattle.block_format.proofs.SlotLaws.{slot_in-bytes, length-slot_bytes}
use Rattle.block_format.proofs.slot.write_slot.Goals as goal

pub returns : goal.returns
returns c =
    let xs = c.args.into.now.bytes in
    let k = c.args.k in
    let slot = c.args.slot.now in
    let part = slot_bytes slot in
    let long = length-slot_bytes slot c.requires.fits in
    let put : c.put.new.bytes ≡ with_part xs part (256 * k) (256 * k + 256) = renamed c.put.new.bytes xs c.spelled.result part (256 * k) 256 c.put.ensures c.spelled.ensures long in
    let spelled : slot_part k c.put.new.bytes ≡ part = ap (slot_part k) put ∙ part_put xs part (256 * k) (256 * k + 256) (omega arith) (omega arith) in
    record {
      bytes = put;
      spelled = spelled;
      reads_back = ap slot_in spelled ∙ slot_in-bytes slot c.requires.fits;
      others = λ j ne. ap (slot_part j) put ∙ part_apart xs part (256 * k) (256 * k + 256) (omega arith) (omega arith) (256 * j) (256 * j + 256) (apart_256 j k ne);
    }
