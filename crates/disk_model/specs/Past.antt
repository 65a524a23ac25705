-- The moments of a disk up to now, and what holds at each of them.
use Rattle.std.specs.Prelude.{◌≡◌, ◌⊎◌, ◌≤◌, ℕ, Bool, IsTrue}
use Rattle.disk_model.specs.Disk.{State}

-- What a disk tells of the time up to now: a clock, whether the moments are told, and the states at the moments since a clock value.
pub record Past : Type 1 where
  pub clock : ℕ
  pub is_told : Bool
  pub since : ℕ → State → Type 0

-- Time goes on from old to new, and each moment that is added has Q. The moments may cease to be told, and don't begin again.
pub record Adds (old new : Past) (Q : State → Type 0) : Type 0 where
  pub told : IsTrue new.is_told → IsTrue old.is_told
  pub later : IsTrue new.is_told → old.clock ≤ new.clock
  pub each : IsTrue new.is_told → (t : ℕ) (s : State) → t ≤ old.clock → new.since t s → old.since t s ⊎ Q s

-- the moments of old are among those of new
abbrev pub Keeps : Past → Past → Type 0
Keeps old new = IsTrue new.is_told → (t : ℕ) (s : State) → t ≤ old.clock → old.since t s → new.since t s

-- a record of no moment but this one
pub record HasBegun (now : Past) : Type 0 where
  pub told : IsTrue now.is_told
  pub clock : now.clock ≡ 0
