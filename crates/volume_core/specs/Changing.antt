-- What comes of a change.
use Rattle.std.specs.Prelude.{◌≡◌, ℕ, Result, Ok, Err}
use Rattle.block_tree.specs.declared.fault.TreeFault.TheVariants.{Device, Damaged, OutOfMemory}
use Rattle.vol_numbers.specs.Cause.{raised}
use Rattle.volume_core.specs.declared.given.Undone.{Undone}
use Rattle.volume_core.specs.declared.given.Undone.TheVariants.{Fault, Stopped}

-- a device's fault and a failed write are counted once, and nothing else is
abbrev pub HasChangeCause : {T : Type 0} → ℕ → ℕ → Result T Undone → Type 0
HasChangeCause old new (Ok value) = new ≡ old
HasChangeCause old new (Err (Fault Device)) = new ≡ raised old
HasChangeCause old new (Err (Fault (Damaged b))) = new ≡ old
HasChangeCause old new (Err (Fault OutOfMemory)) = new ≡ old
HasChangeCause old new (Err Stopped) = new ≡ raised old

-- this, where the change ended before any write
abbrev pub OnUndone : {T : Type 0} → Result T Undone → Type 0 → Type 0
OnUndone (Ok value) P = Unit {0}
OnUndone (Err (Fault fault)) P = P
OnUndone (Err Stopped) P = Unit {0}

-- this, where a write or a sync failed
abbrev pub OnStopped : {T : Type 0} → Result T Undone → Type 0 → Type 0
OnStopped (Ok value) P = Unit {0}
OnStopped (Err (Fault fault)) P = Unit {0}
OnStopped (Err Stopped) P = P

-- this, where a block is damaged
abbrev pub IfDamaged : {T : Type 0} → Result T Undone → Type 0 → Type 0
IfDamaged (Ok value) P = Unit {0}
IfDamaged (Err (Fault Device)) P = Unit {0}
IfDamaged (Err (Fault (Damaged b))) P = P
IfDamaged (Err (Fault OutOfMemory)) P = Unit {0}
IfDamaged (Err Stopped) P = Unit {0}
