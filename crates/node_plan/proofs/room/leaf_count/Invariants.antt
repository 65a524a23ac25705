use Rattle.std.proofs.Common.{◌≤◌, take}
use Rattle.block_tree.specs.Edit.{leaves_of}
use Rattle.node_plan.proofs.LeafCounts.{IsCounted}
use Rattle.node_plan.proofs.room.leaf_count.Given as goal

abbrev pub invariant-loop-change : goal.invariant-loop-change
invariant-loop-change l = IsCounted l.seen (leaves_of (take l.change-index l.change-items)) l.count × (l.count ≤ l.change-index)
