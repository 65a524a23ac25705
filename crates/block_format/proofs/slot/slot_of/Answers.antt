use Rattle.std.proofs.Common.{◌≡◌, ◌∙◌, ap, sym}
use Rattle.block_format.specs.Slot.{slot_bytes}
use Rattle.std.proofs.lemmas.Bool.{false≢true}
use Rattle.block_format.proofs.SlotLaws.{slot_in-spelled}
use Rattle.block_format.proofs.slot.slot_of.Goals as goal

pub returns-in_err-slot-clause-none : goal.returns-in_err-slot-clause-none
returns-in_err-slot-clause-none c = rw c.from_residual.ensures (λ slot is. c.in_err-slot.ensures.none (rw (slot_in-spelled slot c.args.bytes.now is) is.fits))

pub returns-then-not-is_same-clause-none : goal.returns-then-not-is_same-clause-none
returns-then-not-is_same-clause-none c = λ slot is.
    let same : c.in_ok-slot.slot ≡ slot = c.in_ok-slot.ensures.found ∙ slot_in-spelled slot c.args.bytes.now is in
    false≢true (c.if-not-is_same.ensures.is.1 (c.spelled.ensures ∙ ap slot_bytes same ∙ sym is.spelled))
