-- What is said of a change that wasn't done, by why.
use Rattle.std.proofs.Common.{◌≡◌, ℕ}
use Rattle.std.specs.Prelude.{Err}
use Rattle.block_tree.specs.declared.fault.TreeFault.{TreeFault}
use Rattle.block_tree.specs.declared.fault.TreeFault.TheVariants.{Device, Damaged, OutOfMemory}
use Rattle.volume_core.specs.Changing.{OnUndone, OnStopped, IfDamaged}
use Rattle.volume_core.specs.declared.given.Undone.{Undone}
use Rattle.volume_core.specs.declared.given.Undone.TheVariants.{Fault, Stopped}

-- it ended before any write
pub on_fault : (T P : Type 0) (u : Undone) (fault : TreeFault) → u ≡ Fault fault → OnUndone {T = T} (Err u) P → P
on_fault T P (Fault f) fault is p = p
on_fault T P Stopped fault is p = cc

-- a write or a sync failed
pub on_stopped : (T P : Type 0) (u : Undone) → u ≡ Stopped → OnStopped {T = T} (Err u) P → P
on_stopped T P (Fault f) is p = cc
on_stopped T P Stopped is p = p

-- a block is damaged
pub on_damaged : (T P : Type 0) (u : Undone) (fault : TreeFault) (b : ℕ) → u ≡ Fault fault → fault ≡ Damaged b → IfDamaged {T = T} (Err u) P → P
on_damaged T P (Fault (Damaged d)) fault b is damaged p = p
on_damaged T P (Fault Device) fault b is damaged p = cc
on_damaged T P (Fault OutOfMemory) fault b is damaged p = cc
on_damaged T P Stopped fault b is damaged p = cc
