use Rattle.std.proofs.Common.{◌≡◌, ◌++◌, drop, map}
use Rattle.tree_model.specs.Tree.{new_path}
use Rattle.plain_tree.proofs.plain_step.new_paths.Given as goal

abbrev pub invariant-loop-at : goal.invariant-loop-at
invariant-loop-at l = l.paths.items ++ map (λ e. new_path l.from l.to e.0) (drop l.at-index l.nodes) ≡ map (λ e. new_path l.from l.to e.0) l.nodes
