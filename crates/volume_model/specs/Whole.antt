-- What holds of every state that a volume comes to.
use Rattle.std.specs.Prelude.{◌≡◌, ℕ, IsTrue, true, false, Some}
use Rattle.std.specs.FinMap.{find}
use Rattle.volume_model.specs.Cache.{is_cached}
use Rattle.volume_model.specs.Machine.{Machine}
use Rattle.volume_model.specs.Places.{Spot, spot_cmp, spots_of, has_spot, is_block, unplaced, InOrder}

pub record IsWhole (m : Machine) : Type 0 where
  -- the places of the point, those that are kept and those that are dirty are each in order
  pub stored_in_order : InOrder m.stored_places
  pub kept_in_order : InOrder m.kept
  pub dirty_in_order : InOrder (unplaced m.dirty)
  -- what is kept has the block that it had at the last point
  pub kept_is_stored : (spot : Spot) (block : ℕ) → find spot_cmp spot m.kept ≡ Some block → find spot_cmp spot m.stored_places ≡ Some block
  pub kept_blocks : (block : ℕ) → IsTrue (is_block m.kept block) → IsTrue (is_block m.stored_places block)
  -- and is not dirty
  pub apart : (spot : Spot) → has_spot (spots_of m.kept) spot ≡ true → has_spot m.dirty spot ≡ false
  -- each cached block is the block of a place at the last point
  pub cached : (block : ℕ) → IsTrue (is_cached m.cache block) → IsTrue (is_block m.stored_places block)
