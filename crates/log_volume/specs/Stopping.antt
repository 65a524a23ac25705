-- The causes of a stop.
use Rattle.std.specs.Prelude.{◌≡◌, ℕ, Result, Ok, Err}
use Rattle.vol_numbers.specs.Cause.{raised}
use Rattle.log_volume.specs.declared.answer.Stopped.{Stopped}
use Rattle.log_volume.specs.declared.answer.Stopped.TheVariants.{Now, Before}

-- a fault of the device is counted in the call that stops at it, and nothing else
abbrev pub HasStopCause : {T : Type 0} → ℕ → ℕ → Result T Stopped → Type 0
HasStopCause old new (Ok value) = new ≡ old
HasStopCause old new (Err Now) = new ≡ raised old
HasStopCause old new (Err Before) = new ≡ old
