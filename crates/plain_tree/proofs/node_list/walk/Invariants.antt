use Rattle.std.proofs.Common.{◌≡◌, drop, take}
use Rattle.tree_model.specs.Step.{walk, walk_from}
use Rattle.plain_tree.proofs.node_list.walk.Given as goal

-- what is left of the walk
abbrev pub invariant-loop-depth : goal.invariant-loop-depth
invariant-loop-depth l = walk_from l.nodes (take l.depth l.path) (drop l.depth l.path) ≡ walk l.nodes l.path
