-- The cause of what the check of a log answers.
use Rattle.std.specs.Prelude.{◌≡◌, ℕ, Result, Ok, Err}
use Rattle.vol_numbers.specs.Cause.{raised}
use Rattle.log_check.specs.declared.fault.LogCheckFault.{LogCheckFault}
use Rattle.log_check.specs.declared.fault.LogCheckFault.TheVariants.{Found, Device, OutOfMemory}

-- P holds of the index that is found, if one is
abbrev pub IfFound : {T : Type 0} → Result T LogCheckFault → (ℕ → Type 0) → Type 0
IfFound (Ok value) P = Unit {0}
IfFound (Err (Found index)) P = P index
IfFound (Err Device) P = Unit {0}
IfFound (Err OutOfMemory) P = Unit {0}

-- a fault of the device is counted, and nothing else
abbrev pub HasCheckCause : {T : Type 0} → ℕ → ℕ → Result T LogCheckFault → Type 0
HasCheckCause old new (Ok value) = new ≡ old
HasCheckCause old new (Err (Found index)) = new ≡ old
HasCheckCause old new (Err Device) = new ≡ raised old
HasCheckCause old new (Err OutOfMemory) = new ≡ old
