-- A fact of the block that is damaged, of a fault that is handed on.
use Rattle.std.proofs.Common.{◌≡◌, ℕ, Ok, Err, sym}
use Rattle.std.specs.Prelude.{Result}
use Rattle.std.specs.Result.{IsErrAnd}
use Rattle.block_tree.specs.Causes.{IfTreeDamaged}
use Rattle.block_tree.specs.declared.fault.TreeFault.{TreeFault}
use Rattle.block_tree.specs.declared.fault.TreeFault.TheVariants as trees

pub tree_known : {T : Type 0} (r : Result T TreeFault) (fault : TreeFault) (fact : ℕ → Type 0) → IsErrAnd r (λ f. f ≡ fault) → ((b : ℕ) → fault ≡ trees.Damaged b → fact b) → IfTreeDamaged r fact
tree_known (Ok value) fault fact same known = absurd same
tree_known (Err trees.Device) fault fact same known = tt
tree_known (Err (trees.Damaged b)) fault fact same known = known b (sym same)
tree_known (Err trees.OutOfMemory) fault fact same known = tt
