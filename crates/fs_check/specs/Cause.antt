-- Causes of faults.
use Rattle.std.specs.Prelude.{◌≡◌, ℕ, Result, Ok, Err}
use Rattle.vol_numbers.specs.Cause.{raised}
use Rattle.fs_check.specs.declared.fault.CheckFault.{CheckFault}
use Rattle.fs_check.specs.declared.fault.CheckFault.TheVariants.{Found, Device, OutOfMemory}

-- a fault of the device was counted once, and no other was
abbrev pub HasFaultCause : ℕ → ℕ → CheckFault → Type 0
HasFaultCause old new (Found f) = new ≡ old
HasFaultCause old new Device = new ≡ raised old
HasFaultCause old new OutOfMemory = new ≡ old

-- the disk's count of faults rose, once, exactly where the answer is a device's fault
abbrev pub HasFsCause : {T : Type 0} → ℕ → ℕ → Result T CheckFault → Type 0
HasFsCause old new (Ok value) = new ≡ old
HasFsCause old new (Err fault) = HasFaultCause old new fault
