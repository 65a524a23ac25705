-- What is read and taken for a plan before anything in memory changes. These words are for private functions.
use Rattle.std.specs.Prelude.{◌≡◌, ◌≤◌, ℕ, ◌+◌, IsTrue, List, ◌++◌, All, length, map, option_map, sum_by}
use Rattle.std.specs.List.{flat_map}
use Rattle.vol_numbers.specs.Geometry.{layout_of}
use Rattle.vol_numbers.specs.declared.block.Block.{Block}
use Rattle.block_format.specs.Inode.{inode_shape}
use Rattle.block_tree.specs.Notes.{Stand, page_blocks}
use Rattle.block_tree.specs.Tree.{blocks_in}
use Rattle.dirty_store.specs.Laws.{dirty_spots}
use Rattle.dirty_store.specs.Numbers.{AreOnce, staged_numbers}
use Rattle.fresh_runs.specs.Fresh.{blocks_in as blocks_told}
use Rattle.inode_file.specs.Loading.{IsWhole}
use Rattle.node_table.specs.Held.{info}
use Rattle.place_words.specs.Different.{times}
use Rattle.point_model.specs.NodePlan.{node_metas}
use Rattle.point_model.specs.PointPlan.{LiveStays, told}
use Rattle.point_plan.specs.Free.{free_now}
use Rattle.point_plan.specs.Made.{AreNodesPlanned}
use Rattle.point_plan.specs.Nodes.{Ascend, HadInodes, all_added}
use Rattle.point_plan.specs.State.{node_in}
use Rattle.point_plan.specs.declared.gathering.Gathered.{Gathered}
use Rattle.point_plan.specs.declared.planned_node.PlannedNode.{PlannedNode}
use Rattle.point_plan.specs.declared.state.PointState.{PointState}
use Rattle.volume_model.specs.Lines.{fresh_lines, lines_places}
use Rattle.volume_model.specs.Machine.{Machine, Rules}
use Rattle.volume_model.specs.Places.{spots_of}
use Rattle.volume_model.specs.Point.{placed_after}

-- the numbers of planned nodes, and the blocks of their pages
abbrev pub numbers_in : List PlannedNode → List ℕ
numbers_in nodes = map (λ (p : PlannedNode). p.number) nodes

abbrev pub pages_in : List PlannedNode → List ℕ
pages_in nodes = flat_map (λ (p : PlannedNode). page_blocks p.pages) nodes

-- the new inode of a node leads into the volume's area
abbrev pub IsWholeIn : PointState → PlannedNode → Type 0
IsWholeIn s p = IsWhole (layout_of s.geometry) p.is

-- On every disk: the nodes are planned by number, from the inodes that memory has to inodes in shape, of the kinds and sizes of now.
pub record AreFromMemory (s : PointState) (nodes : List PlannedNode) : Type 0 where
  pub ascend : Ascend 1 nodes
  pub numbers : AreOnce (staged_numbers s.dirty.overlay) (numbers_in nodes)
  pub had : HadInodes s.inodes.inodes nodes
  pub shapes : All (λ (p : PlannedNode). IsTrue (inode_shape p.is)) nodes
  pub were_shapes : All (λ (p : PlannedNode). IsTrue (inode_shape p.was)) nodes
  pub kinds : All (λ (p : PlannedNode). told p.is ≡ option_map info (node_in s p.number)) nodes
  pub whole : All (IsWholeIn s) nodes

-- On every disk: the lines have the dirty places in the longest stretches. Their blocks, those of the pages, and those that are left are the free ones.
pub record IsGathered (s : PointState) (g : Gathered) : Type 0 where
  pub free : g.free ≡ length (free_now s)
  pub dirty : g.dirty ≡ length (dirty_spots s.dirty.overlay)
  pub spots : spots_of (lines_places g.lines) ≡ dirty_spots s.dirty.overlay
  pub longest : g.lines ≡ fresh_lines (lines_places g.lines)
  pub parted : (b : ℕ) → times b (blocks_told g.lines) + times b (pages_in g.nodes ++ g.left) ≡ times b (free_now s)
  pub nodes : AreFromMemory s g.nodes
  pub used : (b : ℕ) → times b (all_added g.nodes) ≤ times b (pages_in g.nodes) + times b (blocks_told g.lines)

-- Over the image of the last point, for a machine: the nodes are planned for the places that the lines give, and their blocks of metadata are counted
-- as they were and as they are in each image in which the pages stand. No more pages are written than a node has of them then.
pub record ArePlannedOver (r : Rules) (m : Machine) (old : List Block) (s : PointState) (g : Gathered) : Type 0 where
  pub nodes : AreNodesPlanned old s.dirty.overlay m (placed_after r m (blocks_told g.lines)) g.nodes
  pub before : All (λ (p : PlannedNode). p.metadata_before ≡ length (node_metas old p.number p.was)) g.nodes
  pub metadata : (new : List Block) → LiveStays old new → All (λ (p : PlannedNode). Stand p.pages (blocks_in new)) g.nodes → All (λ (p : PlannedNode). p.metadata ≡ length (node_metas new p.number p.is)) g.nodes
  pub at_most : (new : List Block) → LiveStays old new → All (λ (p : PlannedNode). Stand p.pages (blocks_in new)) g.nodes → All (λ (p : PlannedNode). length (page_blocks p.pages) ≤ p.metadata) g.nodes

-- ---- sums

-- how many blocks of metadata the planned nodes had, and how many they are going to have
abbrev pub metadata_had : List PlannedNode → ℕ
metadata_had nodes = sum_by (λ (p : PlannedNode). p.metadata_before) nodes

abbrev pub metadata_given : List PlannedNode → ℕ
metadata_given nodes = sum_by (λ (p : PlannedNode). p.metadata) nodes
