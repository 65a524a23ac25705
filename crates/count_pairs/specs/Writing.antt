-- What writing the touched count blocks changes.
use Rattle.std.specs.Prelude.{◌≡◌, ◌<◌, ◌-◌, ℕ, Bool, true, false, List, length, slice_get}
use Rattle.vol_numbers.specs.declared.block.Block.{Block}
use Rattle.disk_model.specs.Disk.{State, is_among}
use Rattle.block_format.specs.Homes.{home_bit}
use Rattle.count_pairs.specs.Homes.{home_of, other_of}
use Rattle.count_pairs.specs.Table.{is_touched}

-- the block is the home that isn't named, of a count block with a touched count
abbrev pub IsWritten : List ℕ → List Bool → ℕ → Type 0
IsWritten homes touched b = (i : ℕ) × (is_touched touched i ≡ true) × (b ≡ other_of homes i)

-- Blocks with P may have changed, and are unsynced then. No other block has changed or become unsynced.
pub record ChangesOnly (P : ℕ → Type 0) (before after : State) : Type 0 where
  pub as_long : length after.contents ≡ length before.contents
  pub others : (b : ℕ) → ¬ P b → slice_get after.contents b ≡ slice_get before.contents b
  pub others_unsynced : (b : ℕ) → ¬ P b → is_among after.unsynced b ≡ is_among before.unsynced b
  pub stay_unsynced : (b : ℕ) → is_among before.unsynced b ≡ true → is_among after.unsynced b ≡ true
  pub changed_unsynced : (b : ℕ) → is_among after.unsynced b ≡ false → slice_get after.contents b ≡ slice_get before.contents b

-- The image has the named home of each of n count blocks as it was, where that was not unsynced.
pub record HasNamedHomes (homes : List ℕ) (n : ℕ) (before : State) (image : List Block) : Type 0 where
  pub as_long : length image ≡ length before.contents
  pub each : (i : ℕ) → i < n → is_among before.unsynced (home_of homes i) ≡ false → slice_get image (home_of homes i) ≡ slice_get before.contents (home_of homes i)

-- The new bits name the other home of each count block with a touched count. Every other bit is as it was.
pub record NamesWritten (old new : List ℕ) (touched : List Bool) : Type 0 where
  pub written : (i : ℕ) → is_touched touched i ≡ true → home_bit new i ≡ 1 - home_bit old i
  pub others : (i : ℕ) → is_touched touched i ≡ false → home_bit new i ≡ home_bit old i
