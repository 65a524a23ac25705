-- A plan for which there is room is of a point that isn't short, and one for which there is none of a short point.
use Rattle.std.proofs.Common.{◌≡◌, ℕ, ◌+◌, ◌<◌, ◌≤◌, true, false, List, length, sym, arith, ⊎_elim}
use Rattle.std.specs.Prelude.{nat_lt}
use Rattle.std.proofs.lemmas.Bool.Decides.{nat_tests}
use Rattle.vol_numbers.specs.declared.block.Block.{Block}
use Rattle.point_plan.specs.Gathered.{ArePlannedOver, IsGathered}
use Rattle.point_plan.specs.NoRoom.{HasNoRoom}
use Rattle.point_plan.specs.Planning.{SharesNothing}
use Rattle.point_plan.specs.PutFrom.{IsPutFrom, room_had, room_needed}
use Rattle.point_plan.specs.Room.{GatheredIsCounted, IsCounted}
use Rattle.point_plan.specs.State.{HoldsPoint, IsOfSize}
use Rattle.point_plan.specs.declared.gathering.Gathered.{Gathered}
use Rattle.point_plan.specs.declared.planned.Plan.{Plan}
use Rattle.point_plan.specs.declared.state.PointState.{PointState}
use Rattle.volume_model.specs.Machine.{Machine, Rules, free_of}
use Rattle.volume_model.specs.Short.{is_short, kept_and_dirty}
use Rattle.volume_model.specs.Space.{metadata_blocks}

below : (a b : ℕ) → a < b → nat_lt a b ≡ true
below a b lt = grind (arith, nat_tests)

not_below : (a b : ℕ) → b ≤ a → nat_lt a b ≡ false
not_below a b le = grind (arith, nat_tests)

module _ (r : Rules) (m : Machine) (old : List Block) (blocks : ℕ) (s : PointState) (g : Gathered) (counted : GatheredIsCounted) (shares : SharesNothing r) (holds : HoldsPoint r m old s) (sized : IsOfSize blocks s)
    (gathered : IsGathered s g) (over : ArePlannedOver r m old s g) where
  abbrev need : ℕ
  need = length m.dirty + metadata_blocks m.tree (kept_and_dirty m) + 16

  -- with too little room for the inodes the point is short
  pub no_room_is_short : HasNoRoom s.inodes.inodes g.nodes (room_had s g) (room_needed s g) (length g.left) → is_short m ≡ true
  no_room_is_short lacks =
      let is : IsCounted m s g lacks.inodes = counted r m old blocks s g lacks.inodes shares holds sized gathered over lacks.are in
      below (free_of m) need (⊎_elim (λ few. omega (arith, few, is.free, is.dirty, is.metadata)) (λ few. omega (arith, few, is.free, is.dirty, is.pages, is.left)) lacks.few)

  -- and what is told of its free blocks is so
  pub no_room_tells : HasNoRoom s.inodes.inodes g.nodes (room_had s g) (room_needed s g) (length g.left) → g.free ≡ free_of m
  no_room_tells lacks = sym (counted r m old blocks s g lacks.inodes shares holds sized gathered over lacks.are).free

  module _ (after : PointState) (plan : Plan) (put : IsPutFrom s after g plan) where
    is_counted : IsCounted m s g after.inodes.inodes
    is_counted = counted r m old blocks s g after.inodes.inodes shares holds sized gathered over put.inodes.inodes

    -- with enough it isn't
    pub room_is_long : is_short m ≡ false
    room_is_long = not_below (free_of m) need (omega (arith, put.room, is_counted.free, is_counted.dirty, is_counted.metadata))

    -- and the metadata is what the rule counts
    pub metadata_is : after.metadata ≡ metadata_blocks m.tree (kept_and_dirty m)
    metadata_is = omega (arith, put.metadata, is_counted.metadata)
