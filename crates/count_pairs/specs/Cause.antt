-- The cause of what a reader of the counts answers.
use Rattle.std.specs.Prelude.{◌≡◌, ℕ, Result, Ok, Err}
use Rattle.vol_numbers.specs.Cause.{raised}
use Rattle.count_pairs.specs.declared.fault.CountFault.{CountFault}
use Rattle.count_pairs.specs.declared.fault.CountFault.TheVariants.{Device, OutOfMemory}

-- a fault of the device is counted, and nothing else
abbrev pub HasCountCause : {T : Type 0} → ℕ → ℕ → Result T CountFault → Type 0
HasCountCause old new (Ok value) = new ≡ old
HasCountCause old new (Err Device) = new ≡ raised old
HasCountCause old new (Err OutOfMemory) = new ≡ old
