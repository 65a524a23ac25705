-- Causes of faults.
use Rattle.std.specs.Prelude.{◌≡◌, ℕ, Result, Ok, Err}
use Rattle.vol_numbers.specs.Cause.{raised}
use Rattle.sequence_rule.specs.declared.fault.FindFault.{FindFault}
use Rattle.sequence_rule.specs.declared.fault.FindFault.TheVariants.{Device, OutOfMemory}

-- the disk's count of faults rose, once, exactly where the answer is a device's fault
abbrev pub HasFindCause : {T : Type 0} → ℕ → ℕ → Result T FindFault → Type 0
HasFindCause old new (Ok value) = new ≡ old
HasFindCause old new (Err Device) = new ≡ raised old
HasFindCause old new (Err OutOfMemory) = new ≡ old
