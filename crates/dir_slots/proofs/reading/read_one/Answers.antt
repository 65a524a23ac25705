use Rattle.std.proofs.Common.{◌%◌, ◌/◌, ℕ, List, subst, arith}
use Rattle.std.specs.Prelude.{IfSome, IfNone}
use Rattle.block_format.specs.Slot.{SpellsSlot, slot_part}
use Rattle.block_format.specs.declared.slot.Slot.{Slot}
use Rattle.dir_slots.proofs.PageLaws.{page_there}
use Rattle.dir_slots.proofs.reading.read_one.Goals as goal

pub returns-clause-found : goal.returns-clause-found
returns-clause-found c =
    subst (λ (bytes : List ℕ). IfSome c.read_slot.result (λ (slot : Slot). SpellsSlot slot (slot_part (c.args.i % 16) bytes)))
    (page_there c.args.pages.now (c.args.i / 16) _ (omega (arith, c.requires))) c.read_slot.ensures.found

pub returns-clause-none : goal.returns-clause-none
returns-clause-none c =
    subst (λ (bytes : List ℕ). IfNone c.read_slot.result ((slot : Slot) → SpellsSlot slot (slot_part (c.args.i % 16) bytes) → ⊥))
    (page_there c.args.pages.now (c.args.i / 16) _ (omega (arith, c.requires))) c.read_slot.ensures.none
