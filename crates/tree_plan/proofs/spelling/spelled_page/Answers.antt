use Rattle.std.proofs.Common.{◌+◌, ◌*◌, ap, ◌∙◌}
use Rattle.std.specs.FinMap.{find}
use Rattle.std.specs.Option.{option_copied}
use Rattle.dir_slots.specs.Slots.{slot_at}
use Rattle.volume_model.specs.Places.{spot_cmp}
use Rattle.tree_plan.specs.Pages.{slots_or_none, part_with}
use Rattle.tree_plan.proofs.SpelledLaws.{part_or}
use Rattle.tree_plan.proofs.spelling.spelled_page.Goals as goal

pub returns : goal.returns
returns c j lt =
    let k = 16 * c.args.place + j in
    let staged = find spot_cmp (c.args.number, k) c.args.store.now.overlay.slots in
    c.put_staged.ensures j lt ∙ ap (part_with staged) (c.page_left-block.ensures j lt) ∙ part_or staged (slot_at (slots_or_none (option_copied c.args.left)) k)
