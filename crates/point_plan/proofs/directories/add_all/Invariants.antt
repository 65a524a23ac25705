use Rattle.std.proofs.Common.{◌≡◌, ℕ, false, drop, None}
use Rattle.held_list.specs.Held.{slots_at}
use Rattle.point_plan.specs.Directories.{first_slots, if_planned, is_planned_directory, taken_back, where_there}
use Rattle.point_plan.specs.Nodes.{planned_of}
use Rattle.point_plan.proofs.directories.add_all.Given as goal

abbrev pub invariant-loop-node : goal.invariant-loop-node
invariant-loop-node l = record {
  added : (n : ℕ) → if_planned (planned_of (drop l.node-index l.nodes) n) (slots_at l.directories n) (first_slots (slots_at l.directories n) (slots_at l.fresh n))
      ≡ first_slots (slots_at l.fn.directories n) (slots_at l.fn.fresh n);
  left : (n : ℕ) → if_planned (planned_of (drop l.node-index l.nodes) n) (slots_at l.fresh n) (where_there (slots_at l.directories n) (slots_at l.fresh n))
      ≡ where_there (slots_at l.fn.directories n) (slots_at l.fn.fresh n);
  back : (n : ℕ) → taken_back (planned_of l.nodes n) (slots_at l.fresh n) (slots_at l.directories n) ≡ slots_at l.fn.directories n;
  given : (n : ℕ) → is_planned_directory (planned_of l.nodes n) ≡ false → slots_at l.fresh n ≡ None;
}
