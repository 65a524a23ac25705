use Rattle.std.proofs.Common.{◌≡◌, ◌+◌, ◌*◌, sym, ap, subst, ◌∙◌, arith}
use Rattle.std.specs.Option.{option_copied}
use Rattle.vol_numbers.specs.declared.block.Block.{Block}
use Rattle.block_format.specs.Slot.{slot_part, slot_bytes}
use Rattle.dir_slots.specs.Slots.{slot_at}
use Rattle.tree_plan.specs.Pages.{slots_or_none}
use Rattle.tree_plan.proofs.SpelledLaws.{zero_part}
use Rattle.tree_plan.proofs.spelling.page_left.Goals as goal

pub returns-in_default : goal.returns-in_default
returns-in_default c j lt =
    subst (λ o. slot_part j c.zero-block.result.bytes ≡ slot_bytes (slot_at (slots_or_none (option_copied o)) (16 * c.args.place + j))) (sym c.in_default.is)
    (ap (λ (b : Block). slot_part j b.bytes) c.zero-block.ensures ∙ zero_part 4096 j (omega (arith, lt)))
