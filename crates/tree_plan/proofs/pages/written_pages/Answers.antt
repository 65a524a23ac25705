use Rattle.std.proofs.Common.{◌≤◌, ◌-◌, ◌++◌, List, ℕ, nat_lt, filter, ap, ◌∙◌, arith}
use Rattle.std.specs.Prelude.{◌&&◌}
use Rattle.std.specs.Option.{option_copied}
use Rattle.dir_slots.specs.Pages.{pages_for}
use Rattle.place_words.specs.Different.{span}
use Rattle.point_model.specs.NodePlan.{is_changed_page}
use Rattle.tree_plan.specs.Pages.{slots_or_none}
use Rattle.tree_plan.proofs.RisingLaws.{pages_written}
use Rattle.tree_plan.proofs.pages.written_pages.Goals as goal

pub returns : goal.returns
returns c =
    let left = slots_or_none (option_copied c.args.left) in
    let o = c.args.store.now.overlay in
    let n = c.args.number in
    let before = c.pages_for-before.result in
    let after = c.pages_for-after.result in
    let le : before ≤ after = omega (arith, c.pages_for-before.ensures, c.pages_for-after.ensures, c.width_before.ensures.is, c.width_now.ensures.wide) in
    c.in_ok-push_range.ensures
    ∙ ap (λ (l : List ℕ). l ++ span before (after - before)) (c.in_ok-push_changed.ensures ∙ (λ i. c.new-places.ensures.items i ++ filter (λ p. nat_lt p before && is_changed_page left o n p) (c.as_slice.ensures i)))
    ∙ pages_written left o n c.in_ok-staged.staged before after c.in_ok-staged.ensures (c.pages_for-before.ensures ∙ ap pages_for c.width_before.ensures.is) (c.pages_for-after.ensures ∙ ap pages_for c.width_now.ensures.is) le
