-- Causes of faults.
use Rattle.std.specs.Prelude.{◌≡◌, ℕ, Result, Ok, Err}
use Rattle.vol_numbers.specs.Cause.{raised}
use Rattle.image_walk.specs.declared.fault.WalkFault.{WalkFault}
use Rattle.image_walk.specs.declared.fault.WalkFault.TheVariants.{Found, Device, OutOfMemory}

-- the disk's count of faults rose, once, exactly where the answer is a device's fault
abbrev pub HasWalkCause : {T : Type 0} → ℕ → ℕ → Result T WalkFault → Type 0
HasWalkCause old new (Ok value) = new ≡ old
HasWalkCause old new (Err (Found f)) = new ≡ old
HasWalkCause old new (Err Device) = new ≡ raised old
HasWalkCause old new (Err OutOfMemory) = new ≡ old

-- it is no fault of a device
abbrev pub IsOwn : WalkFault → Type 0
IsOwn (Found f) = Unit {0}
IsOwn Device = ⊥
IsOwn OutOfMemory = Unit {0}

-- the answer is none
abbrev pub IsNoDevice : {T : Type 0} → Result T WalkFault → Type 0
IsNoDevice (Ok value) = Unit {0}
IsNoDevice (Err fault) = IsOwn fault
