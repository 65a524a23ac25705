-- Causes of faults of a plan.
use Rattle.std.specs.Prelude.{◌≡◌, ℕ, Result, Ok, Err}
use Rattle.vol_numbers.specs.Cause.{raised}
use Rattle.point_plan.specs.declared.fault.PlanFault.{PlanFault}
use Rattle.point_plan.specs.declared.fault.PlanFault.TheVariants.{ReadFault, Damaged, OutOfMemory, Short}

-- the disk's count of faults rose, once, exactly where the answer is a fault of a read
abbrev pub HasPlanCause : {T : Type 0} → ℕ → ℕ → Result T PlanFault → Type 0
HasPlanCause old new (Ok value) = new ≡ old
HasPlanCause old new (Err ReadFault) = new ≡ raised old
HasPlanCause old new (Err (Damaged b)) = new ≡ old
HasPlanCause old new (Err OutOfMemory) = new ≡ old
HasPlanCause old new (Err (Short free)) = new ≡ old
