-- Laws of plans.
use Rattle.std.specs.Prelude.{ℕ, List}
use Rattle.vol_numbers.specs.declared.block.Block.{Block}
use Rattle.block_tree.specs.declared.plan.Rewritten.{Rewritten}
use Rattle.inode_file.specs.Inodes.{InodeTable}
use Rattle.point_model.specs.Laws.{IsPlannedFor}
use Rattle.point_plan.specs.Carries.{Carries}
use Rattle.point_plan.specs.Made.{IsMade}
use Rattle.point_plan.specs.State.{HoldsPoint, IsOfSize}
use Rattle.point_plan.specs.declared.planned.Plan.{Plan}
use Rattle.point_plan.specs.declared.state.PointState.{PointState}
use Rattle.volume_model.specs.Machine.{Machine, Rules}
use Rattle.volume_model.specs.Point.{placed_after, fresh_in}
use Rattle.volume_model.specs.ReportLaws.{IsReport}

-- what the steps of planning give for the point of the plan's report, over an image and what memory holds of it
abbrev pub IsMadeFor : Rules → Machine → List Block → PointState → InodeTable → List ℕ → Plan → Rewritten → Type 0
IsMadeFor r m old s t counts plan w = IsMade old s.dirty.overlay m (placed_after r m (fresh_in plan.report)) (fresh_in plan.report) s.inodes t s.counts.counts counts plan w

-- What the steps of planning give is the plan of a point, in each image that carries it over the image of the last point.
abbrev pub MadeIsPlanned : Type 0
MadeIsPlanned = (r : Rules) (m : Machine) (old new : List Block) (blocks : ℕ) (s : PointState) (t : InodeTable) (counts : List ℕ) (plan : Plan) (w : Rewritten)
    → HoldsPoint r m old s → IsOfSize blocks s → IsReport r m plan.report → IsMadeFor r m old s t counts plan w → Carries old new s.dirty.overlay plan counts
    → IsPlannedFor r old new s.dirty.overlay m plan.report
