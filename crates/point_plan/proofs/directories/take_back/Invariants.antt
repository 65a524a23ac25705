use Rattle.std.proofs.Common.{◌≡◌, ℕ, drop}
use Rattle.held_list.specs.Held.{slots_at}
use Rattle.point_plan.specs.Directories.{taken_back}
use Rattle.point_plan.specs.Nodes.{planned_of}
use Rattle.point_plan.proofs.directories.take_back.Given as goal

abbrev pub invariant-loop-node : goal.invariant-loop-node
invariant-loop-node l = (n : ℕ) → taken_back (planned_of (drop l.node-index l.nodes) n) (slots_at l.fresh n) (slots_at l.directories n)
    ≡ taken_back (planned_of l.nodes n) (slots_at l.fresh n) (slots_at l.fn.directories n)
