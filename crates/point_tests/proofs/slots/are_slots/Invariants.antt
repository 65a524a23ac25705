use Rattle.std.proofs.Common.{◌<◌, ℕ}
use Rattle.std.specs.Option.{option_copied}
use Rattle.tree_plan.specs.Pages.{slots_or_none}
use Rattle.point_tests.specs.Within.{IsSlotWithin}
use Rattle.point_tests.proofs.slots.are_slots.Given as goal

abbrev pub invariant-loop-k : goal.invariant-loop-k
invariant-loop-k l = (i : ℕ) → i < l.k → IsSlotWithin (slots_or_none (option_copied l.left)) l.store.overlay l.n i
