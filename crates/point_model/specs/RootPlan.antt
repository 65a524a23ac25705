-- The root of a point, as a switch leaves it.
use Rattle.std.specs.Prelude.{◌≡◌, ℕ, List, length}
use Rattle.vol_numbers.specs.declared.block.Block.{Block}
use Rattle.disk_model.specs.Disk.{State}
use Rattle.block_format.specs.Root.{root_of, root_in, root_bytes, HasGeometry}
use Rattle.block_format.specs.declared.root.RootBody.{RootBody}
use Rattle.image_model.specs.Stands.{layout_in}
use Rattle.point_model.specs.PointPlan.{RootIsPlanned}
use Rattle.root_switch.specs.Current.{root_of_image, HasRoot, FitsImage}
use Rattle.root_switch.specs.Switch.{HasNewRoot}
use Rattle.volume_model.specs.Machine.{Machine}
use Rattle.volume_model.specs.Point.{next_point}

-- The body says the layout of before, the next point and an empty log, and is within the rules of a root.
pub record IsBodyFor (old : List Block) (m : Machine) (body : RootBody) : Type 0 where
  pub reads_back : root_in (root_bytes (root_of body)) ≡ root_of body
  pub geometry : HasGeometry (root_of body)
  pub layout : (root_of body).layout ≡ layout_in old
  pub point : (root_of body).point ≡ next_point m
  pub records : (root_of body).records ≡ 0
  pub log_used : (root_of body).log_used ≡ 0

-- An image that a switch to such a body leaves, over as many blocks as before, has the root that is planned, and its root is what the body says.
abbrev pub SwitchedRootIsPlanned : Type 0
SwitchedRootIsPlanned = (old new : List Block) (m : Machine) (written : State) (slot : ℕ) (body : RootBody) → HasRoot old → FitsImage old → length written.contents ≡ length old
    → IsBodyFor old m body → HasNewRoot written slot body new → RootIsPlanned old new m × (root_of_image new ≡ root_of body)
