-- Causes of faults.
use Rattle.std.specs.Prelude.{◌≡◌, ℕ, Result, Ok, Err}
use Rattle.vol_numbers.specs.Cause.{raised}
use Rattle.count_pairs.specs.declared.fault.CountFault.{CountFault}
use Rattle.count_pairs.specs.declared.fault.CountFault.TheVariants as pairs
use Rattle.count_check.specs.declared.fault.CountCheckFault.{CountCheckFault}
use Rattle.count_check.specs.declared.fault.CountCheckFault.TheVariants.{Found, Device, OutOfMemory}

-- the disk's count of faults rose, once, exactly where the answer is a device's fault
abbrev pub HasCountCheckCause : {T : Type 0} → ℕ → ℕ → Result T CountCheckFault → Type 0
HasCountCheckCause old new (Ok value) = new ≡ old
HasCountCheckCause old new (Err (Found f)) = new ≡ old
HasCountCheckCause old new (Err Device) = new ≡ raised old
HasCountCheckCause old new (Err OutOfMemory) = new ≡ old

-- why counts weren't read
abbrev pub fault_of : CountFault → CountCheckFault
fault_of pairs.Device = Device
fault_of pairs.OutOfMemory = OutOfMemory
