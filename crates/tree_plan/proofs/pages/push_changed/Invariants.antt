use Rattle.std.proofs.Common.{◌≡◌, ◌++◌, nat_lt, filter, take}
use Rattle.std.specs.Prelude.{◌&&◌}
use Rattle.std.specs.Option.{option_copied}
use Rattle.point_model.specs.NodePlan.{is_changed_page}
use Rattle.tree_plan.specs.Pages.{slots_or_none}
use Rattle.tree_plan.proofs.pages.push_changed.Given as goal

abbrev pub invariant-loop-place : goal.invariant-loop-place
invariant-loop-place l =
    l.places.items ≡ l.fn.places.items ++ filter (λ p. nat_lt p l.limit && is_changed_page (slots_or_none (option_copied l.fn.left)) l.store.overlay l.number p) (take l.place-index l.staged)
