-- What taking a point does.
use Rattle.std.specs.Prelude.{◌≡◌, ◌⊎◌, List, []}
use Rattle.vol_numbers.specs.Geometry.{layout_of}
use Rattle.vol_numbers.specs.Layout.{count_blocks}
use Rattle.vol_numbers.specs.declared.block.Block.{Block}
use Rattle.block_tree.specs.Tree.{blocks_in}
use Rattle.count_pairs.specs.Table.{AllStand}
use Rattle.disk_model.specs.Disk.{State, EachImage}
use Rattle.disk_model.specs.Past.{Past, Adds}
use Rattle.image_model.specs.Stands.{Stands}
use Rattle.point_plan.specs.Planning.{SharesNothing}
use Rattle.point_plan.specs.State.{HoldsPoint}
use Rattle.point_plan.specs.declared.state.PointState.{PointState}
use Rattle.tree_model.specs.declared.report.Report.{Report}
use Rattle.volume_model.specs.Machine.{Machine, Rules, stored}
use Rattle.volume_model.specs.Point.{after_point, fresh_in}
use Rattle.volume_model.specs.ReportLaws.{IsReport}

-- Disk and memory hold this machine: nothing is unsynced, the memory holds it over the contents, and the counts stand block by block in the homes that
-- the root names.
pub record IsHeld (r : Rules) (m : Machine) (s : State) (state : PointState) : Type 0 where
  pub shares : SharesNothing r
  pub synced : s.unsynced ≡ []
  pub holds : HoldsPoint r m s.contents state
  pub counted : AllStand (blocks_in s.contents) state.current.body.homes.bytes (count_blocks (layout_of state.geometry)) state.counts.counts

-- they hold some machine
abbrev pub HoldsSome : State → PointState → Type 0
HoldsSome s state = (r : Rules) × (m : Machine) × IsHeld r m s state

-- The image stands for what the machine stores, or for what it stores after one of its points.
abbrev pub StandsThrough : Rules → Machine → List Block → Type 0
StandsThrough r m image = Stands image (stored m) ⊎ ((report : Report) × IsReport r m report × Stands image (stored (after_point r m (fresh_in report))))

-- The image stands for what the machine stores, or for what it stores after the point of this report.
abbrev pub StandsBetween : Rules → Machine → Report → List Block → Type 0
StandsBetween r m report image = Stands image (stored m) ⊎ Stands image (stored (after_point r m (fresh_in report)))

-- One of the machine's points is such that each image of this state, and of each moment between, stands for what was stored, or for what is stored
-- after it.
pub record StopsWithin (r : Rules) (m : Machine) (old new : Past) (s : State) : Type 0 where
  pub report : Report
  pub is_report : IsReport r m report
  pub left : EachImage (StandsBetween r m report) s
  pub during : Adds old new (EachImage (StandsBetween r m report))
