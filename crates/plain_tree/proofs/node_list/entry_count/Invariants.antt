use Rattle.std.proofs.Common.{◌≡◌, ◌≤◌, ◌+◌, length, drop}
use Rattle.tree_model.specs.Tree.{entries_of}
use Rattle.plain_tree.proofs.node_list.entry_count.Given as goal

abbrev pub invariant-loop-at : goal.invariant-loop-at
invariant-loop-at l = (l.count + length (entries_of (drop l.at-index l.nodes) l.path) ≡ length (entries_of l.nodes l.path)) × (l.count ≤ l.at-index)
