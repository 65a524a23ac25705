use Rattle.std.proofs.Common.{◌≡◌, ◌++◌, drop}
use Rattle.tree_model.specs.Tree.{entries_of}
use Rattle.plain_tree.proofs.node_list.entries_of.Given as goal

abbrev pub invariant-loop-at : goal.invariant-loop-at
invariant-loop-at l = l.entries.items ++ entries_of (drop l.at-index l.nodes) l.path ≡ entries_of l.nodes l.path
