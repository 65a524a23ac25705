-- A plan that is put together of what was gathered. These words are for private functions.
use Rattle.std.specs.Prelude.{◌≡◌, ◌<◌, ℕ, ◌+◌, ◌^◌, ◌%◌, true, false, List, ◌++◌, length, slice_index}
use Rattle.vol_numbers.specs.Geometry.{layout_of}
use Rattle.vol_numbers.specs.declared.block.Block.{Block}
use Rattle.block_format.specs.Root.{HasGeometry, root_of}
use Rattle.block_format.specs.declared.root.RootBody.{RootBody}
use Rattle.block_tree.specs.Notes.{Stand, page_blocks}
use Rattle.block_tree.specs.Tree.{Blocks}
use Rattle.block_tree.specs.declared.plan.Rewritten.{Rewritten}
use Rattle.image_model.specs.Stands.{Stands}
use Rattle.inode_file.specs.Inodes.{InodeTable, IsTable, Stands as InodesStand, inode_of}
use Rattle.inode_file.specs.Loading.{IsWithin}
use Rattle.inode_file.specs.Rewriting.{has_nodes, table_pointers}
use Rattle.place_words.specs.Different.{Distinct, is_among, times}
use Rattle.point_plan.specs.Carries.{Carries}
use Rattle.point_plan.specs.Free.{IsFree}
use Rattle.point_plan.specs.Gathered.{ArePlannedOver, IsGathered}
use Rattle.point_plan.specs.Nodes.{IsCountable, all_added, all_dropped, inode_or, planned_of}
use Rattle.point_plan.specs.Planning.{IsNextRoot, SharesNothing, blocks_written, with_free}
use Rattle.point_plan.specs.State.{HoldsPoint, IsOfSize}
use Rattle.point_plan.specs.declared.gathering.Gathered.{Gathered}
use Rattle.point_plan.specs.declared.planned.Plan.{Plan}
use Rattle.point_plan.specs.declared.state.PointState.{PointState}
use Rattle.volume_model.specs.Machine.{Machine, Rules, free_of, stored}
use Rattle.volume_model.specs.Point.{after_point, fresh_in}
use Rattle.volume_model.specs.ReportLaws.{IsReport}
use Rattle.volume_model.specs.Short.{is_short}

-- the plan of these parts, with this number of free blocks in its report
abbrev pub made_plan : Gathered → Rewritten → RootBody → ℕ → Plan
made_plan g w root free = record {
  nodes = g.nodes;
  inode_pages = w.pages;
  report = record { number = root.point; fresh = g.dirty; shared = 0; free = free; lines = g.lines };
  root = root;
}

-- A root within the rules, with the geometry and the homes of another, the next point number, an empty log and this inode index.
pub record IsRootAfter (before : RootBody) (at : ℕ) (root : RootBody) : Type 0 where
  pub grammar : HasGeometry (root_of root)
  pub geometry : root.geometry ≡ before.geometry
  pub homes : root.homes ≡ before.homes
  pub point : root.point ≡ (before.point + 1) % 2 ^ 64
  pub records : root.records ≡ 0
  pub log_used : root.log_used ≡ 0
  pub index : root.inode_index ≡ at

-- On every disk: the inodes are those before with those of the planned nodes, and stand where their pages do. What is taken for them is what was left.
pub record AreInodesRenewed (s : PointState) (t : InodeTable) (g : Gathered) (w : Rewritten) : Type 0 where
  pub whole : IsTable t
  pub settled : t.inodes ≡ t.stored
  pub inodes : (n : ℕ) → inode_of t.inodes n ≡ inode_or (planned_of g.nodes n) (inode_of s.inodes.inodes n)
  pub stored : (after : Blocks) → Stand w.pages after → InodesStand after s.inodes → InodesStand after t
  pub some : (k : ℕ) → k < 1024 → has_nodes t k ≡ false → slice_index t.pointers k ≡ 0
  pub pointers : (b : ℕ) → times b (table_pointers s.inodes) + times b w.added ≡ times b (table_pointers t) + times b w.dropped
  pub within : IsWithin (layout_of s.geometry) t
  pub added : w.added ≡ page_blocks w.pages
  pub rest : List ℕ
  pub taken : page_blocks w.pages ++ rest ≡ g.left

-- On every disk: the counts have moved by the pointers of the planned nodes and of the inodes.
pub record AreCountsRenewed (kept counts : List ℕ) (g : Gathered) (w : Rewritten) : Type 0 where
  pub long : length counts ≡ length kept
  pub moved : (b : ℕ) → b < length kept → IsCountable g.nodes w (slice_index kept b) b
      → slice_index kept b + times b (w.added ++ all_added g.nodes) ≡ slice_index counts b + times b (w.dropped ++ all_dropped g.nodes)

-- All that is known of a plan where the disk tells its contents: what was gathered, and what memory has become.
pub record IsPutTogether (r : Rules) (m : Machine) (old : List Block) (blocks : ℕ) (s after : PointState) (g : Gathered) (w : Rewritten) (root : RootBody) (free : ℕ) : Type 0 where
  pub shares : SharesNothing r
  pub holds : HoldsPoint r m old s
  pub sized : IsOfSize blocks s
  pub gathered : IsGathered s g
  pub over : ArePlannedOver r m old s g
  pub inodes : AreInodesRenewed s after.inodes g w
  pub counts : AreCountsRenewed s.counts.counts after.counts.counts g w
  pub next : IsNextRoot s after (made_plan g w root free)

-- What a plan owes, but for the memory after it.
pub record IsPlanSoFar (r : Rules) (m : Machine) (old : List Block) (before s : PointState) (plan : Plan) : Type 0 where
  pub report : IsReport r m (with_free plan.report (free_of (after_point r m (fresh_in plan.report))))
  pub free : (b : ℕ) → is_among (blocks_written plan) b ≡ true → IsFree old b
  pub once : Distinct (blocks_written plan)
  pub stands : (new : List Block) → Carries old new before.dirty.overlay plan s.counts.counts → Stands new (stored (after_point r m (fresh_in plan.report)))

-- What is put together is the plan of a point, where that isn't short.
abbrev pub PutTogetherIsPlan : Type 0
PutTogetherIsPlan = (r : Rules) (m : Machine) (old : List Block) (blocks : ℕ) (s after : PointState) (g : Gathered) (w : Rewritten) (root : RootBody) (free : ℕ)
    → IsPutTogether r m old blocks s after g w root free → is_short m ≡ false → IsPlanSoFar r m old s after (made_plan g w root free)
