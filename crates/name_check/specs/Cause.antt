-- Causes of faults.
use Rattle.std.specs.Prelude.{◌≡◌, ℕ, Result, Ok, Err}
use Rattle.vol_numbers.specs.Cause.{raised}
use Rattle.name_check.specs.declared.fault.NameFault.{NameFault}
use Rattle.name_check.specs.declared.fault.NameFault.TheVariants.{Found, Device, OutOfMemory}

-- the disk's count of faults rose, once, exactly where the answer is a device's fault
abbrev pub HasNameCause : {T : Type 0} → ℕ → ℕ → Result T NameFault → Type 0
HasNameCause old new (Ok value) = new ≡ old
HasNameCause old new (Err (Found f)) = new ≡ old
HasNameCause old new (Err Device) = new ≡ raised old
HasNameCause old new (Err OutOfMemory) = new ≡ old

-- it is no fault of a device
abbrev pub IsOwn : NameFault → Type 0
IsOwn (Found f) = Unit {0}
IsOwn Device = ⊥
IsOwn OutOfMemory = Unit {0}

-- it is no finding
abbrev pub IsNoFinding : NameFault → Type 0
IsNoFinding (Found f) = ⊥
IsNoFinding Device = Unit {0}
IsNoFinding OutOfMemory = Unit {0}
