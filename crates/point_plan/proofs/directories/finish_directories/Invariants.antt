use Rattle.std.proofs.Common.{◌≡◌, ℕ, true, drop}
use Rattle.std.specs.Prelude.{is_some}
use Rattle.held_list.specs.Held.{slots_at}
use Rattle.point_plan.specs.Directories.{finished}
use Rattle.point_plan.specs.Nodes.{planned_of}
use Rattle.point_plan.proofs.directories.finish_directories.Given as goal

abbrev pub invariant-loop-node : goal.invariant-loop-node
invariant-loop-node l = record {
  done : (n : ℕ) → finished (planned_of (drop l.node-index l.nodes) n) (slots_at l.fresh n) (slots_at l.directories n)
      ≡ finished (planned_of l.nodes n) (slots_at l.fn.fresh n) (slots_at l.fn.directories n);
  there : (n : ℕ) → is_some (planned_of (drop l.node-index l.nodes) n) ≡ true → is_some (slots_at l.fresh n) ≡ true → is_some (slots_at l.directories n) ≡ true;
}
