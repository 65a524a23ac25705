-- What a plan of a point owes.
use Rattle.std.specs.Prelude.{◌≡◌, ◌<◌, ◌≤◌, ℕ, ◌+◌, ◌*◌, ◌^◌, ◌%◌, true, false, List, ◌++◌, All, length}
use Rattle.std.specs.List.{flat_map}
use Rattle.vol_numbers.specs.Geometry.{layout_of}
use Rattle.vol_numbers.specs.Layout.{count_blocks}
use Rattle.vol_numbers.specs.declared.block.Block.{Block}
use Rattle.block_format.specs.Root.{root_of, HasGeometry}
use Rattle.block_tree.specs.Notes.{page_blocks}
use Rattle.dirty_store.specs.Overlay.{clean}
use Rattle.dirty_store.specs.Undo.{Store}
use Rattle.inode_file.specs.Inodes.{IsTable}
use Rattle.inode_file.specs.Loading.{IsWithin}
use Rattle.image_model.specs.Stands.{Stands}
use Rattle.place_words.specs.Different.{Distinct, is_among}
use Rattle.point_plan.specs.Carries.{Carries}
use Rattle.point_plan.specs.Free.{IsFree}
use Rattle.point_plan.specs.State.{HoldsPoint, IsStagedWithin}
use Rattle.point_plan.specs.declared.planned.Plan.{Plan}
use Rattle.point_plan.specs.declared.planned_node.PlannedNode.{PlannedNode}
use Rattle.point_plan.specs.declared.state.PointState.{PointState}
use Rattle.root_switch.specs.Current.{current_slot, root_of_image}
use Rattle.tree_model.specs.declared.report.Line.{Line}
use Rattle.tree_model.specs.declared.report.Report.{Report}
use Rattle.volume_model.specs.Lines.{fresh_only}
use Rattle.volume_model.specs.Machine.{Machine, Rules, stored, free_of}
use Rattle.volume_model.specs.Point.{after_point, fresh_in}
use Rattle.volume_model.specs.ReportLaws.{IsReport}
use Rattle.volume_model.specs.Short.{is_short}

-- The cache list has no room, so nothing is shared.
pub record SharesNothing (r : Rules) : Type 0 where
  pub capacity : r.capacity ≡ 0
  pub threshold : 0 < r.threshold

-- memory and this image hold some machine
abbrev pub HoldsSome : List Block → PointState → Type 0
HoldsSome image s = (r : Rules) × (m : Machine) × SharesNothing r × HoldsPoint r m image s

-- the blocks of the pages of all changed nodes
abbrev pub node_pages : Plan → List ℕ
node_pages plan = flat_map (λ (p : PlannedNode). page_blocks p.pages) plan.nodes

-- all blocks that a plan writes but for the counts and the root
abbrev pub blocks_written : Plan → List ℕ
blocks_written plan = (node_pages plan ++ page_blocks plan.inode_pages) ++ fresh_in plan.report

-- A line is of places of a file and of blocks of a disk of this size.
pub record IsLineWithin (size : ℕ) (l : Line) : Type 0 where
  pub places : l.place + l.length ≤ 1048576
  pub blocks : l.block + l.length ≤ size

-- On every disk: what is written lies within it, and each line of the report is a fresh one.
pub record IsPlanWithin (size : ℕ) (plan : Plan) : Type 0 where
  pub blocks : All (λ b. b < size) (blocks_written plan)
  pub lines : All (IsLineWithin size) plan.report.lines
  pub fresh : fresh_only plan.report.lines ≡ plan.report.lines

-- the report with this number of free blocks
abbrev pub with_free : Report → ℕ → Report
with_free report free = record report { free = free }

-- Memory is that after a point, with nothing staged, and has the root of an image.
pub record IsSettled (image : List Block) (s after : PointState) : Type 0 where
  pub geometry : after.geometry ≡ s.geometry
  pub inodes : after.inodes ≡ s.inodes
  pub directories : after.directories ≡ s.directories
  pub counts : after.counts.counts ≡ s.counts.counts
  pub metadata : after.metadata ≡ s.metadata
  pub clean : after.dirty.overlay ≡ clean
  pub slot : after.current.slot ≡ current_slot image
  pub root : root_of after.current.body ≡ root_of_image image

-- A plan over the image and the memory of before, with the memory after it: the point isn't short, the report is that of one of the machine's points
-- but for its number of free blocks, which is known once the counts are. What is written is free at the last point, and is written once. An image that
-- carries the plan stands for what is stored after the point, and the memory after holds the machine after the point over it.
pub record IsPlan (r : Rules) (m : Machine) (old : List Block) (before s : PointState) (plan : Plan) : Type 0 where
  pub long : is_short m ≡ false
  pub report : IsReport r m (with_free plan.report (free_of (after_point r m (fresh_in plan.report))))
  pub free : (b : ℕ) → is_among (blocks_written plan) b ≡ true → IsFree old b
  pub once : Distinct (blocks_written plan)
  pub stands : (new : List Block) → Carries old new before.dirty.overlay plan s.counts.counts → Stands new (stored (after_point r m (fresh_in plan.report)))
  pub holds : (new : List Block) (after : PointState) → Carries old new before.dirty.overlay plan s.counts.counts → IsSettled new s after → HoldsPoint r (after_point r m (fresh_in plan.report)) new after

-- On every disk: the root of a plan is within the rules of a root. It has the geometry and the homes of before, the next point number, an empty log,
-- and the inode index of the memory after.
pub record IsNextRoot (before s : PointState) (plan : Plan) : Type 0 where
  pub grammar : HasGeometry (root_of plan.root)
  pub geometry : plan.root.geometry ≡ before.geometry
  pub homes : plan.root.homes ≡ before.current.body.homes
  pub point : plan.root.point ≡ (before.current.body.point + 1) % 2 ^ 64
  pub records : plan.root.records ≡ 0
  pub log_used : plan.root.log_used ≡ 0
  pub index : plan.root.inode_index ≡ s.inodes.index

-- On every disk: the memory after a plan is within the rules of a volume, once nothing is staged.
pub record IsPlannedWithin (s : PointState) : Type 0 where
  pub table : IsTable s.inodes
  pub within : IsWithin (layout_of s.geometry) s.inodes
  pub settled : s.inodes.inodes ≡ s.inodes.stored
  pub counts : length s.counts.counts ≡ 1024 * count_blocks (layout_of s.geometry)
  pub touched : length s.counts.touched ≡ count_blocks (layout_of s.geometry)
  pub staged : (dirty : Store) → dirty.overlay ≡ clean → IsStagedWithin (record s { dirty = dirty })
