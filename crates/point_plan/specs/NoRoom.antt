-- That there are too few blocks for new inodes. These words are for private functions.
use Rattle.std.specs.Prelude.{◌≡◌, ◌≤◌, ◌<◌, ◌⊎◌, ℕ, ◌+◌, List}
use Rattle.block_format.specs.declared.inode.Inode.{Inode}
use Rattle.inode_file.specs.Counting.{used_positions}
use Rattle.inode_file.specs.Inodes.{inode_of}
use Rattle.point_plan.specs.Nodes.{inode_or, planned_of}
use Rattle.point_plan.specs.declared.planned_node.PlannedNode.{PlannedNode}

-- With the inodes of the planned nodes, what is needed and the inode blocks are more than there may be, or no more blocks are left than inode blocks.
pub record HasNoRoom (was : List Inode) (nodes : List PlannedNode) (have need left : ℕ) : Type 0 where
  pub inodes : List Inode
  pub are : (n : ℕ) → inode_of inodes n ≡ inode_or (planned_of nodes n) (inode_of was n)
  pub few : (have < need + used_positions inodes) ⊎ (left ≤ used_positions inodes)
