use Rattle.std.proofs.Common.{◌≡◌, ◌+◌, drop}
use Rattle.tree_model.specs.Tree.{unused_from}
use Rattle.plain_tree.proofs.node_list.first_unused.Given as goal

-- what is left to look for is the same
abbrev pub invariant-loop-e : goal.invariant-loop-e
invariant-loop-e l = (unused_from l.nodes l.number (drop l._e-index l.nodes) ≡ unused_from l.nodes 2 l.nodes) × (l.number ≡ 2 + l._e-index)
