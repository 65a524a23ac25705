use Rattle.std.proofs.Common.{◌≡◌, ◌+◌, ◌<◌, map, vec_len, vec_capacity}
use Rattle.tree_model.specs.Tree.{moved_onto, moved, new_path}
use Rattle.plain_tree.proofs.plain_step.move_all.Given as goal

abbrev pub invariant-loop-path : goal.invariant-loop-path
invariant-loop-path l = record {
  same : moved_onto l.from l.to l.nodes.items l.new.items ≡ moved l.from l.to l.fn.nodes.items;
  paths : l.paths.items ≡ map (λ e. new_path l.from l.to e.0) l.nodes.items;
  room : vec_len l.nodes + vec_len l.new < vec_capacity l.new;
}

abbrev pub decreases-loop-path : goal.decreases-loop-path
decreases-loop-path l = vec_len l.paths
