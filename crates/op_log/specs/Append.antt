-- What writing a record changes.
use Rattle.std.specs.Prelude.{◌≡◌, ◌⊎◌, ◌<◌, ◌≤◌, ℕ, ◌+◌, true, false, length, slice_get}
use Rattle.disk_model.specs.Disk.{State, is_among}

-- before the first block, or behind so many from there on
abbrev pub IsOutside : ℕ → ℕ → ℕ → Type 0
IsOutside first count k = (k < first) ⊎ (first + count ≤ k)

-- So many blocks from the first on may have changed, and are unsynced then. No other block has changed or become unsynced.
pub record ChangesWithin (first count : ℕ) (before after : State) : Type 0 where
  pub as_long : length after.contents ≡ length before.contents
  pub others : (k : ℕ) → IsOutside first count k → slice_get after.contents k ≡ slice_get before.contents k
  pub others_unsynced : (k : ℕ) → IsOutside first count k → is_among after.unsynced k ≡ is_among before.unsynced k
  pub stay_unsynced : (k : ℕ) → is_among before.unsynced k ≡ true → is_among after.unsynced k ≡ true
  pub changed_unsynced : (k : ℕ) → is_among after.unsynced k ≡ false → slice_get after.contents k ≡ slice_get before.contents k
