-- The cause of what a reader of the log answers.
use Rattle.std.specs.Prelude.{◌≡◌, ℕ, Result, Ok, Err}
use Rattle.vol_numbers.specs.Cause.{raised}
use Rattle.op_log.specs.declared.fault.LogFault.{LogFault}
use Rattle.op_log.specs.declared.fault.LogFault.TheVariants.{Device, BadRecord, OutOfMemory}
use Rattle.op_log.specs.declared.fault.ReadFault.{ReadFault}
use Rattle.op_log.specs.declared.fault.ReadFault.TheVariants as reads

-- a fault of the device is counted, and nothing else
abbrev pub HasLogCause : {T : Type 0} → ℕ → ℕ → Result T LogFault → Type 0
HasLogCause old new (Ok value) = new ≡ old
HasLogCause old new (Err Device) = new ≡ raised old
HasLogCause old new (Err (BadRecord number)) = new ≡ old
HasLogCause old new (Err OutOfMemory) = new ≡ old

-- the same, of reading one record
abbrev pub HasReadCause : {T : Type 0} → ℕ → ℕ → Result T ReadFault → Type 0
HasReadCause old new (Ok value) = new ≡ old
HasReadCause old new (Err reads.Device) = new ≡ raised old
HasReadCause old new (Err reads.OutOfMemory) = new ≡ old

-- P holds of the number of the bad record, if there is one
abbrev pub IfBadRecord : {T : Type 0} → Result T LogFault → (ℕ → Type 0) → Type 0
IfBadRecord (Ok value) P = Unit {0}
IfBadRecord (Err Device) P = Unit {0}
IfBadRecord (Err (BadRecord number)) P = P number
IfBadRecord (Err OutOfMemory) P = Unit {0}
