-- Faults that are passed on, of points that are short.
use Rattle.std.proofs.Common.{◌≡◌, ℕ, refl}
use Rattle.std.specs.Prelude.{Result, Ok, Err, IsErrOf, IsErrAnd}
use Rattle.node_plan.specs.declared.fault.NodeFault.{NodeFault}
use Rattle.node_plan.specs.declared.fault.NodeFault.TheVariants as nodes
use Rattle.point_plan.specs.PlacedFresh.{as_plan_fault, as_taken_fault}
use Rattle.point_plan.specs.declared.fault.PlanFault.{PlanFault}
use Rattle.point_plan.specs.declared.fault.PlanFault.TheVariants.{Short}
use Rattle.run_allocator.specs.declared.free_map.TakeFault.{TakeFault}
use Rattle.run_allocator.specs.declared.free_map.TakeFault.TheVariants as takes

-- a point is short where a number is
pub was_short : {T : Type 0} (fault : NodeFault) (given : PlanFault) (free n : ℕ) → given ≡ as_plan_fault fault free → IsErrOf {T = T} (Err given) (Short n) → (fault ≡ nodes.Short) × (n ≡ free)
was_short nodes.ReadFault given free n is e = cc
was_short (nodes.Damaged b) given free n is e = cc
was_short nodes.OutOfMemory given free n is e = cc
was_short nodes.Short given free n is e = (refl, cc)

-- or where the dirty places are
pub taken_short : {T : Type 0} (A : Type 0) (r : Result T PlanFault) (fault : TakeFault) (n : ℕ) → IsErrAnd r (λ f. f ≡ as_taken_fault fault) → IsErrOf r (Short n) → IsErrOf {T = A} (Err fault) (takes.Short n)
taken_short A (Ok value) fault n same is = absurd same
taken_short A (Err f) (takes.Short free) n same is = cc
taken_short A (Err f) takes.OutOfMemory n same is = cc
