-- What the steps of planning give, before it is put together. These words are for private functions.
use Rattle.std.specs.Prelude.{◌≡◌, ◌<◌, ◌≤◌, ℕ, ◌+◌, ◌^◌, false, List, [], ◌++◌, All, length, slice_index, option_map, Option, Some, None}
use Rattle.vol_numbers.specs.Geometry.{layout_of}
use Rattle.vol_numbers.specs.declared.block.Block.{Block}
use Rattle.block_format.specs.Inode.{pointer_of}
use Rattle.block_tree.specs.Notes.{Stand, page_blocks}
use Rattle.block_tree.specs.Tree.{Blocks, blocks_in}
use Rattle.block_tree.specs.declared.plan.Rewritten.{Rewritten}
use Rattle.dirty_store.specs.Overlay.{Overlay}
use Rattle.image_model.specs.Plan.{taken_in}
use Rattle.image_model.specs.Point.{TakesFree}
use Rattle.image_model.specs.Stands.{layout_in}
use Rattle.inode_file.specs.Inodes.{InodeTable, IsTable, Stands, inode_of}
use Rattle.inode_file.specs.Rewriting.{has_nodes, table_pointers}
use Rattle.node_table.specs.Held.{info}
use Rattle.place_words.specs.Different.{times}
use Rattle.point_model.specs.Holding.{inode_before, node_now}
use Rattle.point_model.specs.PointPlan.{LiveStays, NodeIsPlanned, told}
use Rattle.point_plan.specs.Nodes.{Ascend, IsCountable, added_in, all_added, all_dropped, dropped_in, inode_or, planned_of}
use Rattle.point_plan.specs.declared.planned.Plan.{Plan}
use Rattle.point_plan.specs.declared.planned_node.PlannedNode.{PlannedNode}
use Rattle.volume_model.specs.Machine.{Machine}
use Rattle.volume_model.specs.Places.{Places}
use Rattle.volume_model.specs.Point.{next_point}

-- the blocks that are taken for a number's pages
abbrev pub taken_by : Option PlannedNode → List ℕ
taken_by None = []
taken_by (Some p) = page_blocks p.pages

-- In each image in which the pages stand, and the live blocks as they were, each number is planned: changed nodes as noted, the others as they were.
pub record AreNodesPlanned (old : List Block) (o : Overlay) (m : Machine) (placed : Places) (nodes : List PlannedNode) : Type 0 where
  pub ascend : Ascend 1 nodes
  pub each : (new : List Block) → LiveStays old new → All (λ (p : PlannedNode). Stand p.pages (blocks_in new)) nodes → (n : ℕ)
      → NodeIsPlanned old new o m placed n (inode_or (planned_of nodes n) (inode_before old n)) (added_in (planned_of nodes n)) (dropped_in (planned_of nodes n)) (taken_by (planned_of nodes n))
  pub kinds : (n : ℕ) → told (inode_or (planned_of nodes n) (inode_before old n)) ≡ option_map info (node_now old o n)

-- The inodes are those before, with those of the planned nodes, and stand where their pages do.
pub record AreInodesPlanned (was t : InodeTable) (nodes : List PlannedNode) (w : Rewritten) : Type 0 where
  pub whole : IsTable t
  pub settled : t.inodes ≡ t.stored
  pub inodes : (n : ℕ) → inode_of t.inodes n ≡ inode_or (planned_of nodes n) (inode_of was.inodes n)
  pub stored : (after : Blocks) → Stand w.pages after → Stands after was → Stands after t
  pub some : (k : ℕ) → k < 1024 → has_nodes t k ≡ false → slice_index t.pointers k ≡ 0
  pub pointers : (b : ℕ) → times b (table_pointers was) + times b w.added ≡ times b (table_pointers t) + times b w.dropped
  pub small : (n : ℕ) → pointer_of (inode_of t.inodes n) < 2 ^ 32

-- The counts have moved by the pointers that come and go, wherever they could.
pub record AreCountsMoved (kept counts : List ℕ) (nodes : List PlannedNode) (w : Rewritten) : Type 0 where
  pub long : length counts ≡ length kept
  pub moved : (b : ℕ) → b < length kept → IsCountable nodes w (slice_index kept b) b
      → slice_index kept b + times b (w.added ++ all_added nodes) ≡ slice_index counts b + times b (w.dropped ++ all_dropped nodes)
  -- each pointer that comes leads to a block that is counted little enough
  pub fits : (b : ℕ) → 1 ≤ times b (w.added ++ all_added nodes) → slice_index kept b + times b (w.added ++ all_added nodes) < 2 ^ 32

-- The new root has the layout of before, the next number, an empty log and the new inode index.
pub record IsRootPlanned (old : List Block) (m : Machine) (t : InodeTable) (plan : Plan) : Type 0 where
  pub layout : layout_of plan.root.geometry ≡ layout_in old
  pub point : plan.root.point ≡ next_point m
  pub records : plan.root.records ≡ 0
  pub log_used : plan.root.log_used ≡ 0
  pub index : plan.root.inode_index ≡ t.index

-- All of this, and what is taken is free.
pub record IsMade (old : List Block) (o : Overlay) (m : Machine) (placed : Places) (fresh : List ℕ) (was t : InodeTable) (kept counts : List ℕ) (plan : Plan) (w : Rewritten) : Type 0 where
  pub nodes : AreNodesPlanned old o m placed plan.nodes
  pub inodes : AreInodesPlanned was t plan.nodes w
  pub pages : plan.inode_pages ≡ w.pages
  pub moved : AreCountsMoved kept counts plan.nodes w
  pub root : IsRootPlanned old m t plan
  pub free : TakesFree old (taken_in w.added (λ n. taken_by (planned_of plan.nodes n))) fresh
