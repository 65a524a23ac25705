use Rattle.std.proofs.Common.{◌≡◌, ◌-◌, ◌++◌}
use Rattle.place_words.specs.Different.{span}
use Rattle.tree_plan.proofs.pages.push_range.Given as goal

abbrev pub invariant-loop-place : goal.invariant-loop-place
invariant-loop-place l = l.places.items ≡ l.fn.places.items ++ span l.from (l.place - l.from)
