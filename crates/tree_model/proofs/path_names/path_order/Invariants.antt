use Rattle.std.proofs.Common.{◌≡◌, ◌≤◌, length, drop}
use Rattle.tree_model.specs.Path.{path_cmp}
use Rattle.tree_model.proofs.path_names.path_order.Given as goal

abbrev pub invariant-loop-i : goal.invariant-loop-i
invariant-loop-i l = record { same : path_cmp (drop l.i l.a) (drop l.i l.b) ≡ path_cmp l.a l.b; within : l.i ≤ length l.b }
