use Rattle.std.proofs.Common.{◌≡◌, ℕ, drop, None}
use Rattle.held_list.specs.Held.{slots_at}
use Rattle.point_plan.specs.Directories.{built_or, slots_then}
use Rattle.point_plan.specs.Nodes.{planned_of}
use Rattle.point_plan.proofs.directories.build_directories.Given as goal

abbrev pub invariant-loop-node : goal.invariant-loop-node
invariant-loop-node l = (n : ℕ) → built_or (slots_then l.directories l.dirty.overlay) (planned_of (drop l.node-index l.nodes) n) (slots_at l.fresh n)
    ≡ built_or (slots_then l.directories l.dirty.overlay) (planned_of l.nodes n) None
