use Rattle.std.proofs.Common.{◌≡◌, drop}
use Rattle.tree_model.specs.Tree.{node_at}
use Rattle.plain_tree.proofs.node_list.find_node.Given as goal

-- the node is among those that are left
abbrev pub invariant-loop-at : goal.invariant-loop-at
invariant-loop-at l = node_at (drop l.at-index l.nodes) l.path ≡ node_at l.nodes l.path
