-- A point over a fresh volume with nothing pending.
use Rattle.std.specs.Prelude.{◌≡◌, ◌≤◌, ◌<◌, ℕ, ◌+◌, List, [], slice_get}
use Rattle.vol_numbers.specs.Layout.{Layout}
use Rattle.vol_numbers.specs.declared.block.Block.{Block}
use Rattle.dirty_store.specs.Overlay.{clean}
use Rattle.image_model.specs.Fresh.{IsFresh}
use Rattle.point_model.specs.Laws.{MayTake, IsPlannedFor}
use Rattle.root_switch.specs.Current.{root_of_image, HasRoot, FitsImage}
use Rattle.tree_model.specs.Tree.{new_tree}
use Rattle.tree_model.specs.declared.report.Report.{Report}
use Rattle.volume_model.specs.Machine.{Machine, Rules, at_point}
use Rattle.volume_model.specs.Point.{report_of}

-- New has the root of old with the next point number, and each block behind the root slots as it was.
pub record HasNextRoot (old new : List Block) : Type 0 where
  pub there : HasRoot new
  pub fits : FitsImage new
  pub root : root_of_image new ≡ record (root_of_image old) { point = (root_of_image old).point + 1 }
  pub others : (b : ℕ) → 3 ≤ b → slice_get new b ≡ slice_get old b

-- a fresh volume
abbrev pub fresh_machine : Layout → Machine
fresh_machine g = at_point g new_tree [] 0 []

-- its report of a point: nothing is written
abbrev pub fresh_report : Rules → Layout → Report
fresh_report r g = report_of r (fresh_machine g) []

-- Over a fresh volume with nothing pending a point may be taken, and an image with the next root is one in which it is planned.
abbrev pub FreshPointIsPlanned : Type 0
FreshPointIsPlanned = (r : Rules) (g : Layout) (old new : List Block) → 0 < r.threshold → IsFresh g old → HasNextRoot old new
    → MayTake r old clean (fresh_machine g) (fresh_report r g) × IsPlannedFor r old new clean (fresh_machine g) (fresh_report r g)
