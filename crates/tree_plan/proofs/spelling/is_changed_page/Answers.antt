use Rattle.std.proofs.Common.{◌+◌, ◌*◌, sym, ap, ◌∙◌, arith}
use Rattle.std.specs.FinMap.{find}
use Rattle.std.specs.Option.{option_copied}
use Rattle.dir_slots.specs.Slots.{slot_at}
use Rattle.volume_model.specs.Places.{spot_cmp}
use Rattle.tree_plan.specs.Pages.{slots_or_none, part_with}
use Rattle.tree_plan.proofs.ChangedLaws.{changed_is}
use Rattle.tree_plan.proofs.SpelledLaws.{part_or}
use Rattle.tree_plan.proofs.spelling.is_changed_page.Goals as goal

pub returns : goal.returns
returns c =
    let left = slots_or_none (option_copied c.args.left) in
    let o = c.args.store.now.overlay in
    let n = c.args.number in
    let place = c.args.place in
    c.ne.ensures
    ∙ changed_is left o n place c.page_left-before.result.bytes c.spelled_page-after.result.bytes (omega arith) (omega arith) c.page_left-before.ensures
    (λ j lt.
    let staged = find spot_cmp (n, 16 * place + j) o.slots in
    c.spelled_page-after.ensures j lt ∙ sym (part_or staged (slot_at left (16 * place + j))) ∙ sym (ap (part_with staged) (c.page_left-before.ensures j lt)))
