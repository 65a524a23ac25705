-- Faults that are handed on: after a read that went well, and from a tree to its node.
use Rattle.std.proofs.Common.{◌≡◌, ◌≤◌, ℕ, Bool, Ok, Err, sym, subst, arith}
use Rattle.std.specs.Prelude.{Result, IsErrOf}
use Rattle.std.specs.Result.{IsErrAnd}
use Rattle.vol_numbers.specs.Layout.{Layout}
use Rattle.disk_model.specs.Disk.{Given}
use Rattle.block_tree.specs.Causes.{IsDamage, IfTreeDamaged}
use Rattle.block_tree.specs.Tree.{Blocks}
use Rattle.block_tree.specs.declared.fault.TreeFault.{TreeFault}
use Rattle.block_tree.specs.declared.fault.TreeFault.TheVariants as trees
use Rattle.node_plan.specs.Faults.{IsNodeDamage, IfNodeDamaged, as_node_fault}
use Rattle.node_plan.specs.declared.fault.NodeFault.{NodeFault}
use Rattle.node_plan.specs.declared.fault.NodeFault.TheVariants.{ReadFault, Damaged, OutOfMemory, Short}
use Rattle.tree_plan.specs.declared.plan.TreePlan.{TreePlan}

pub damage_after : {T : Type 0} (g : Layout) (tells : Bool) (contents : Blocks) (old between new : Given) (r : Result T NodeFault) (fault : NodeFault) → IsErrAnd r (λ f. f ≡ fault)
    → old.count ≤ between.count → IsNodeDamage {T = TreePlan} g tells contents between new (Err fault) → IsNodeDamage g tells contents old new r
damage_after g tells contents old between new (Ok value) fault same le damage = absurd same
damage_after g tells contents old between new (Err ReadFault) fault same le damage = tt
damage_after g tells contents old between new (Err OutOfMemory) fault same le damage = tt
damage_after g tells contents old between new (Err Short) fault same le damage = tt
damage_after g tells contents old between new (Err (Damaged b)) fault same le damage = later (subst (λ (x : NodeFault). IsNodeDamage {T = TreePlan} g tells contents between new (Err x)) (sym same) damage)
  where
    later : IsDamage g tells contents between new b → IsDamage g tells contents old new b
    later d = record { number = d.number; rose = omega (arith, le, d.rose); outside = d.outside; pointer = d.pointer; stands = d.stands }

-- ---- a fact of the block that is damaged

-- that of a tree's fault is that of its node's
pub tree_to_node : {T : Type 0} (r : Result T NodeFault) (fault : TreeFault) (fact : ℕ → Type 0) → IsErrAnd r (λ f. f ≡ as_node_fault fault) → IfTreeDamaged {T = ℕ} (Err fault) fact → IfNodeDamaged r fact
tree_to_node (Ok value) fault fact same is = absurd same
tree_to_node {T = T} (Err found) fault fact same is = subst (λ (f : NodeFault). IfNodeDamaged {T = T} (Err f) fact) (sym same) (by fault is)
  where
    by : (fault : TreeFault) → IfTreeDamaged {T = ℕ} (Err fault) fact → IfNodeDamaged {T = T} (Err (as_node_fault fault)) fact
    by trees.Device is = tt
    by (trees.Damaged b) is = is
    by trees.OutOfMemory is = tt

pub node_known : {T : Type 0} (r : Result T NodeFault) (fact : ℕ → Type 0) (b : ℕ) → IfNodeDamaged r fact → IsErrOf r (Damaged b) → fact b
node_known {T = T} r fact b is e = subst (λ (x : Result T NodeFault). IfNodeDamaged x fact) e is

-- that of a node's fault is handed on
pub node_to_node : {T : Type 0} (r : Result T NodeFault) (fault : NodeFault) (fact : ℕ → Type 0) → IsErrAnd r (λ f. f ≡ fault) → IfNodeDamaged {T = ℕ} (Err fault) fact → IfNodeDamaged r fact
node_to_node (Ok value) fault fact same is = absurd same
node_to_node {T = T} (Err found) fault fact same is = subst (λ (f : NodeFault). IfNodeDamaged {T = T} (Err f) fact) (sym same) (by fault is)
  where
    by : (fault : NodeFault) → IfNodeDamaged {T = ℕ} (Err fault) fact → IfNodeDamaged {T = T} (Err fault) fact
    by ReadFault is = tt
    by (Damaged b) is = is
    by OutOfMemory is = tt
    by Short is = tt
