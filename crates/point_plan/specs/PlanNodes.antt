-- What is planned of all staged numbers, one after the other. These words are for private functions.
use Rattle.std.specs.Prelude.{◌≡◌, ◌≤◌, ◌<◌, ℕ, ◌+◌, ◌++◌, Bool, true, IsTrue, List, [], All, length, take, option_map, slice_index, slice_index_or}
use Rattle.std.specs.List.{AllZip}
use Rattle.vol_numbers.specs.declared.block.Block.{Block}
use Rattle.vol_numbers.specs.declared.runs.Change.{Change}
use Rattle.block_format.specs.Inode.{inode_shape}
use Rattle.block_tree.specs.Notes.{Stand, page_blocks}
use Rattle.block_tree.specs.Tree.{blocks_in}
use Rattle.held_list.specs.Held.{slots_at}
use Rattle.inode_file.specs.Inodes.{inode_of}
use Rattle.node_plan.specs.Nodes.{rough_need}
use Rattle.tree_plan.specs.Pages.{slots_or_none}
use Rattle.node_table.specs.Held.{info}
use Rattle.point_model.specs.NodePlan.{AreOfPlaces, node_metas}
use Rattle.point_model.specs.PointPlan.{LiveStays, NodeIsPlanned, told}
use Rattle.point_plan.specs.Gathered.{numbers_in, pages_in}
use Rattle.point_plan.specs.State.{HoldsPoint, node_in}
use Rattle.point_plan.specs.declared.planned_node.PlannedNode.{PlannedNode}
use Rattle.point_plan.specs.declared.state.PointState.{PointState}
use Rattle.volume_model.specs.Machine.{Machine, Rules}
use Rattle.volume_model.specs.Places.{Places, Spot, has_spot}

-- ---- changes

-- the changes are at dirty places of a number
abbrev pub AreAtDirty : List Spot → ℕ → List Change → Type 0
AreAtDirty dirty n changes = All (λ (c : Change). has_spot dirty (n, c.place) ≡ true) changes

-- number by number the changes are its dirty places, each with the block that it has after the point
abbrev pub AreAllOfPlaces : List Spot → Places → List ℕ → List (List Change) → Type 0
AreAllOfPlaces dirty placed numbers changes = AllZip (AreOfPlaces dirty placed) numbers changes

-- ---- planned nodes

-- On every disk: a planned node had the inode that memory has of its number, and gets one in shape, of the kind and size that the number has now.
pub record IsPlanOf (s : PointState) (p : PlannedNode) : Type 0 where
  pub had : inode_of s.inodes.inodes p.number ≡ p.was
  pub shape : IsTrue (inode_shape p.is)
  pub kind : told p.is ≡ option_map info (node_in s p.number)

-- Over the image of the last point, for a machine: the number is planned wherever the changes of all numbers lead to places after the point, and its blocks
-- of metadata are counted as they were and as they are in each image in which its pages stand. No more pages are written than it has of them then.
pub record IsPlanOver (old : List Block) (s : PointState) (m : Machine) (numbers : List ℕ) (changes : List (List Change)) (p : PlannedNode) : Type 0 where
  pub planned : (placed : Places) → AreAllOfPlaces m.dirty placed numbers changes → (new : List Block) → LiveStays old new → Stand p.pages (blocks_in new)
      → NodeIsPlanned old new s.dirty.overlay m placed p.number p.is p.added p.dropped (page_blocks p.pages)
  pub metadata_before : p.metadata_before ≡ length (node_metas old p.number p.was)
  pub metadata : (new : List Block) → LiveStays old new → Stand p.pages (blocks_in new) → p.metadata ≡ length (node_metas new p.number p.is)
  pub at_most : (new : List Block) → LiveStays old new → Stand p.pages (blocks_in new) → length (page_blocks p.pages) ≤ p.metadata

-- that holds where the disk tells its contents, for each machine that memory and the image hold
abbrev pub IsPlanWhereTold : Bool → List Block → PointState → List ℕ → List (List Change) → PlannedNode → Type 0
IsPlanWhereTold tells old s numbers changes p = IsTrue tells → (r : Rules) (m : Machine) → HoldsPoint r m old s → IsPlanOver old s m numbers changes p

-- ---- too few free blocks

-- how many free blocks the number at a place of the list needs at most
abbrev pub need_at : PointState → List ℕ → List (List Change) → ℕ → ℕ
need_at s numbers changes k =
    rough_need s.dirty.overlay (slice_index numbers k) (inode_of s.inodes.inodes (slice_index numbers k)) (slots_or_none (slots_at s.directories (slice_index numbers k))) (slice_index_or changes k [])

-- Numbers before this one are planned, and have the first of the free blocks for their pages. Those with what this one needs at most are more than are free.
pub record StopsShort (tells : Bool) (old : List Block) (s : PointState) (numbers : List ℕ) (changes : List (List Change)) (free : List ℕ) : Type 0 where
  pub place : ℕ
  pub within : place < length numbers
  pub nodes : List PlannedNode
  pub listed : numbers_in nodes ≡ take place numbers
  pub rest : List ℕ
  pub taken : pages_in nodes ++ rest ≡ free
  pub plans : All (IsPlanOf s) nodes
  pub planned : All (IsPlanWhereTold tells old s numbers changes) nodes
  pub short : length free < length (pages_in nodes) + need_at s numbers changes place
