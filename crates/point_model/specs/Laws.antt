-- Laws of planned points.
use Rattle.std.specs.Prelude.{◌≡◌, ◌<◌, ◌+◌, ◌*◌, ℕ, false, List, get_or, length, take, Some}
use Rattle.std.specs.FinMap.{find}
use Rattle.vol_numbers.specs.Layout.{count_blocks}
use Rattle.vol_numbers.specs.declared.block.Block.{Block}
use Rattle.block_format.specs.declared.inode.Inode.{Inode}
use Rattle.block_format.specs.declared.inode.Inode.TheVariants.{Directory}
use Rattle.block_tree.specs.Tree.{blocks_in}
use Rattle.dirty_store.specs.Overlay.{Overlay}
use Rattle.image_model.specs.Plan.{inode_pointers}
use Rattle.image_model.specs.Point.{HasPoint}
use Rattle.image_model.specs.Seen.{seen}
use Rattle.image_model.specs.Slots.{slots_of as slots_seen}
use Rattle.image_model.specs.Stands.{Stands, layout_in}
use Rattle.place_words.specs.Different.{span, times, total}
use Rattle.point_model.specs.Holding.{HoldsMachine, inode_before, slots_now}
use Rattle.point_model.specs.NodePlan.{node_pointers}
use Rattle.point_model.specs.OldPages.{DirectoriesStand}
use Rattle.point_model.specs.PointPlan.{PointIsPlanned}
use Rattle.state_laws.specs.States.{IsCoherent}
use Rattle.tree_model.specs.declared.report.Report.{Report}
use Rattle.volume_model.specs.Machine.{Machine, Rules, Stored, stored, block_at}
use Rattle.volume_model.specs.Places.{Spot, spot_cmp}
use Rattle.volume_model.specs.Point.{after_point, placed_after, fresh_in}
use Rattle.volume_model.specs.ReportLaws.{IsReport}
use Rattle.volume_model.specs.Short.{is_short}

-- What holds where a point is taken: the old image stands for what the machine stores, it and the overlay hold what the machine does,
-- the machine is coherent, the report is one of its points, and the point isn't short.
pub record MayTake (r : Rules) (old : List Block) (o : Overlay) (m : Machine) (report : Report) : Type 0 where
  pub stands : Stands old (stored m)
  pub holds : HoldsMachine old o m
  pub coherent : IsCoherent r m
  pub is_report : IsReport r m report
  pub long : is_short m ≡ false

-- the plan of the point of a report
abbrev pub IsPlannedFor : Rules → List Block → List Block → Overlay → Machine → Report → Type 0
IsPlannedFor r old new o m report = PointIsPlanned old new o m (placed_after r m (fresh_in report)) (fresh_in report)

-- An image in which a point is planned has all that a point owes.
abbrev pub PlannedHasPoint : Type 0
PlannedHasPoint = (r : Rules) (old new : List Block) (o : Overlay) (m : Machine) (report : Report) → MayTake r old o m report → IsPlannedFor r old new o m report
    → HasPoint old new (stored (after_point r m (fresh_in report)))

-- So it stands for the state after the point.
abbrev pub PlannedStands : Type 0
PlannedStands = (r : Rules) (old new : List Block) (o : Overlay) (m : Machine) (report : Report) → MayTake r old o m report → IsPlannedFor r old new o m report
    → Stands new (stored (after_point r m (fresh_in report)))

-- ---- what an image of the last point has

-- Each block of a file holds the bytes of its places, where it has 4,096 bytes as those of a disk have.
abbrev pub BlocksHoldBytes : Type 0
BlocksHoldBytes = (image : List Block) (s : Stored) → Stands image s → (spot : Spot) (block : ℕ) → find spot_cmp spot s.places ≡ Some block
    → length (blocks_in image block) ≡ 4096 → blocks_in image block ≡ block_at s.tree spot

-- The pages of each directory are there, and spell its slots.
abbrev pub PagesAreSpelled : Type 0
PagesAreSpelled = (image : List Block) (s : Stored) → Stands image s → DirectoriesStand image

-- The kept count of a block is the number of pointers to it: those of the root and the inode index, and number by number those of each node.
abbrev pub CountsArePointers : Type 0
CountsArePointers = (image : List Block) (s : Stored) → Stands image s → (b : ℕ) → b < 1024 * count_blocks (layout_in image)
    → get_or (seen image).kept b 0 ≡ times b (inode_pointers image) + total (λ n. times b (node_pointers image (inode_before image n))) (span 0 65536)

-- The inodes that are seen of the new image are those that are planned, and each directory has the slots that it has now.
pub record IsSeenAsPlanned (old new : List Block) (o : Overlay) (inode : ℕ → Inode) : Type 0 where
  pub inodes : (n : ℕ) → inode_before new n ≡ inode n
  pub slots : (n width height ptr : ℕ) → inode n ≡ Directory width height ptr → take width (slots_seen (seen new) n) ≡ slots_now old o n

-- So it is of an image in which a point is planned.
abbrev pub PlannedIsSeen : Type 0
PlannedIsSeen = (r : Rules) (old new : List Block) (o : Overlay) (m : Machine) (report : Report) → MayTake r old o m report → (plan : IsPlannedFor r old new o m report) → IsSeenAsPlanned old new o plan.inode
