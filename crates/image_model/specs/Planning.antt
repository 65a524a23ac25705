-- Laws of what a point plans and leaves.
use Rattle.std.specs.Prelude.{◌≡◌, ◌≤◌, ℕ, ◌+◌, List, map}
use Rattle.std.specs.FinMap.{find}
use Rattle.vol_numbers.specs.Layout.{Layout}
use Rattle.vol_numbers.specs.declared.block.Block.{Block}
use Rattle.block_format.specs.declared.inode.Inode.{Inode}
use Rattle.volume_model.specs.Machine.{Machine, Rules, Stored}
use Rattle.volume_model.specs.Point.{after_point}
use Rattle.volume_model.specs.Places.{Spot, spot_cmp, InOrder}
use Rattle.image_model.specs.Fresh.{IsFresh, fresh_inode, fresh_stored}
use Rattle.image_model.specs.Met.{metas, NoFaults}
use Rattle.image_model.specs.Plan.{IsPlanned, taken_in}
use Rattle.place_words.specs.Different.{times}
use Rattle.image_model.specs.Point.{HasPoint, IsAssembled}
use Rattle.image_model.specs.Seen.{seen}
use Rattle.image_model.specs.Stands.{Stands, spot_of}

-- After a point an image stands for the tree and the places that the point made.
abbrev pub PointStands : Type 0
PointStands = (old new : List Block) (before s : Stored) → Stands old before → HasPoint old new s → Stands new s

-- An image that is assembled stands for what it is assembled for.
abbrev pub AssembledStands : Type 0
AssembledStands = (image : List Block) (s : Stored) → IsAssembled image s → Stands image s

-- What is planned number by number is met without a fault, and leads to metadata of before or to what is taken for it.
abbrev pub PlanLeads : Type 0
PlanLeads = (old new : List Block) (before : Stored) (inode : ℕ → Inode) → Stands old before → (plan : IsPlanned old new inode)
    → NoFaults (seen new).met × ((b : ℕ) → times b (metas (seen new).met) ≤ times b (metas (seen old).met) + times b (taken_in plan.for_inodes plan.for_node))

-- What a format leaves has all that a point owes, over itself: so there are images that have it.
abbrev pub FreshHasPoint : Type 0
FreshHasPoint = (g : Layout) (image : List Block) → IsFresh g image → HasPoint image image (fresh_stored g) × IsPlanned image image fresh_inode

-- The places after a point are in order. So what is seen has them where it has the block of each.
pub record PointPlaces : Type 0 where
  pub in_order : (r : Rules) (m : Machine) (fresh : List ℕ) → InOrder m.kept → InOrder (after_point r m fresh).stored_places
  pub seen : (image : List Block) (r : Rules) (m : Machine) (fresh : List ℕ) → NoFaults (seen image).met → InOrder m.kept
      → ((spot : Spot) → find spot_cmp spot (map spot_of (seen image).contents) ≡ find spot_cmp spot (after_point r m fresh).stored_places)
      → map spot_of (seen image).contents ≡ (after_point r m fresh).stored_places
