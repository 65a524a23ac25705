-- What stands just after a point, with nothing staged.
use Rattle.std.specs.Prelude.{◌≡◌, ◌<◌, ℕ, true, List}
use Rattle.vol_numbers.specs.declared.block.Block.{Block}
use Rattle.dirty_store.specs.Overlay.{Overlay, clean}
use Rattle.image_model.specs.Stands.{Stands}
use Rattle.point_model.specs.Holding.{HoldsMachine}
use Rattle.state_laws.specs.States.{IsCoherent}
use Rattle.volume_model.specs.Machine.{Machine, Rules, stored}
use Rattle.volume_model.specs.Point.{after_point, may_be_fresh}
use Rattle.volume_model.specs.Short.{kept_and_dirty}
use Rattle.volume_model.specs.Space.{metadata_blocks}

-- The state after a point of a coherent state is coherent, whichever fresh blocks the point takes.
abbrev pub CoherenceStays : Type 0
CoherenceStays = (r : Rules) (m : Machine) (fresh : List ℕ) → 0 < r.threshold → IsCoherent r m → may_be_fresh r m fresh ≡ true → IsCoherent r (after_point r m fresh)

-- The image stands for what the machine stores, the machine is coherent, image and overlay hold what it does, and so many of its blocks are metadata.
pub record RestsOver (r : Rules) (m : Machine) (image : List Block) (o : Overlay) (blocks : ℕ) : Type 0 where
  pub stands : Stands image (stored m)
  pub coherent : IsCoherent r m
  pub staged : HoldsMachine image o m
  pub metadata : blocks ≡ metadata_blocks m.stored_tree m.stored_places

-- An image that stands for what is stored after a point holds the machine after it with nothing staged. The metadata is then what the rule of the
-- short point counts.
abbrev pub PointRests : Type 0
PointRests = (r : Rules) (m : Machine) (new : List Block) (o : Overlay) (fresh : List ℕ) (metadata : ℕ) → 0 < r.threshold → IsCoherent r m → may_be_fresh r m fresh ≡ true
    → Stands new (stored (after_point r m fresh)) → o ≡ clean → metadata ≡ metadata_blocks m.tree (kept_and_dirty m) → RestsOver r (after_point r m fresh) new o metadata
