-- Whether a point is short, from what was gathered. These words are for private functions.
use Rattle.std.specs.Prelude.{◌≡◌, ◌≤◌, ℕ, ◌+◌, List, length}
use Rattle.vol_numbers.specs.declared.block.Block.{Block}
use Rattle.block_format.specs.declared.inode.Inode.{Inode}
use Rattle.inode_file.specs.Counting.{used_positions}
use Rattle.inode_file.specs.Inodes.{inode_of}
use Rattle.point_plan.specs.Gathered.{ArePlannedOver, IsGathered, metadata_given, metadata_had, pages_in}
use Rattle.point_plan.specs.Nodes.{inode_or, planned_of}
use Rattle.point_plan.specs.Planning.{SharesNothing}
use Rattle.point_plan.specs.State.{HoldsPoint, IsOfSize}
use Rattle.point_plan.specs.declared.gathering.Gathered.{Gathered}
use Rattle.point_plan.specs.declared.state.PointState.{PointState}
use Rattle.volume_model.specs.Machine.{Machine, Rules, free_of}
use Rattle.volume_model.specs.Short.{kept_and_dirty}
use Rattle.volume_model.specs.Space.{metadata_blocks}

-- The free blocks, the dirty places and the metadata after the point are what was counted. Pages of nodes, the inode blocks and the inode index are part
-- of that metadata, and what is left are the free blocks without those of pages and places.
pub record IsCounted (m : Machine) (s : PointState) (g : Gathered) (inodes : List Inode) : Type 0 where
  pub free : free_of m ≡ g.free
  pub dirty : length m.dirty ≡ g.dirty
  pub metadata : metadata_blocks m.tree (kept_and_dirty m) + (metadata_had g.nodes + used_positions s.inodes.inodes) ≡ s.metadata + (metadata_given g.nodes + used_positions inodes)
  pub pages : (1 + used_positions inodes) + length (pages_in g.nodes) ≤ metadata_blocks m.tree (kept_and_dirty m)
  pub left : length g.left + (length (pages_in g.nodes) + g.dirty) ≡ g.free

-- these are the inodes of before, with those of the planned nodes
abbrev pub AreInodesAfter : PointState → Gathered → List Inode → Type 0
AreInodesAfter s g inodes = (n : ℕ) → inode_of inodes n ≡ inode_or (planned_of g.nodes n) (inode_of s.inodes.inodes n)

-- What was gathered counts the metadata after the point.
abbrev pub GatheredIsCounted : Type 0
GatheredIsCounted = (r : Rules) (m : Machine) (old : List Block) (blocks : ℕ) (s : PointState) (g : Gathered) (inodes : List Inode)
    → SharesNothing r → HoldsPoint r m old s → IsOfSize blocks s → IsGathered s g → ArePlannedOver r m old s g → AreInodesAfter s g inodes → IsCounted m s g inodes
