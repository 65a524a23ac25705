-- Causes of faults, and which of them come before the first write.
use Rattle.std.specs.Prelude.{◌≡◌, ℕ, Result, Ok, Err}
use Rattle.vol_numbers.specs.Cause.{raised}
use Rattle.point_plan.specs.declared.fault.PlanFault.{PlanFault}
use Rattle.point_plan.specs.declared.fault.PlanFault.TheVariants as plans
use Rattle.consistency_point.specs.declared.fault.PointFault.{PointFault}
use Rattle.consistency_point.specs.declared.fault.PointFault.TheVariants.{ReadFault, Damaged, WriteFault, OutOfMemory, Short}

-- the disk's count of faults rose, once, exactly where the answer is a fault of a read, a write or a sync
abbrev pub HasPointCause : {T : Type 0} → ℕ → ℕ → Result T PointFault → Type 0
HasPointCause old new (Ok value) = new ≡ old
HasPointCause old new (Err ReadFault) = new ≡ raised old
HasPointCause old new (Err (Damaged b)) = new ≡ old
HasPointCause old new (Err WriteFault) = new ≡ raised old
HasPointCause old new (Err OutOfMemory) = new ≡ old
HasPointCause old new (Err (Short free)) = new ≡ old

-- the fault comes before the first write
abbrev pub IsBeforeWrites : PointFault → Type 0
IsBeforeWrites ReadFault = Unit {0}
IsBeforeWrites (Damaged b) = Unit {0}
IsBeforeWrites WriteFault = ⊥
IsBeforeWrites OutOfMemory = Unit {0}
IsBeforeWrites (Short free) = Unit {0}

-- the answer comes before the first write
abbrev pub EndsBeforeWrites : {T : Type 0} → Result T PointFault → Type 0
EndsBeforeWrites (Ok value) = ⊥
EndsBeforeWrites (Err fault) = IsBeforeWrites fault

-- the answer comes after the first write
abbrev pub HasWritten : {T : Type 0} → Result T PointFault → Type 0
HasWritten answer = EndsBeforeWrites answer → ⊥

-- the fault of a plan, as one of a point
abbrev pub fault_of : PlanFault → PointFault
fault_of plans.ReadFault = ReadFault
fault_of (plans.Damaged b) = Damaged b
fault_of plans.OutOfMemory = OutOfMemory
fault_of (plans.Short free) = Short free
