-- Why a node can't be planned.
use Rattle.std.specs.Prelude.{◌≡◌, ◌≤◌, ℕ, Bool, Result, Ok, Err}
use Rattle.vol_numbers.specs.Cause.{raised}
use Rattle.vol_numbers.specs.Layout.{Layout}
use Rattle.disk_model.specs.Disk.{Given}
use Rattle.block_tree.specs.Causes.{IsDamage}
use Rattle.block_tree.specs.Tree.{Blocks}
use Rattle.block_tree.specs.declared.fault.TreeFault.{TreeFault}
use Rattle.block_tree.specs.declared.fault.TreeFault.TheVariants as trees
use Rattle.node_plan.specs.declared.fault.NodeFault.{NodeFault}
use Rattle.node_plan.specs.declared.fault.NodeFault.TheVariants.{ReadFault, Damaged, OutOfMemory, Short}

abbrev pub as_node_fault : TreeFault → NodeFault
as_node_fault trees.Device = ReadFault
as_node_fault (trees.Damaged b) = Damaged b
as_node_fault trees.OutOfMemory = OutOfMemory

-- the disk's count of faults rose, once, exactly where the answer is a fault of reading
abbrev pub HasNodeCause : {T : Type 0} → ℕ → ℕ → Result T NodeFault → Type 0
HasNodeCause old new (Ok value) = new ≡ old
HasNodeCause old new (Err ReadFault) = new ≡ raised old
HasNodeCause old new (Err (Damaged b)) = new ≡ old
HasNodeCause old new (Err OutOfMemory) = new ≡ old
HasNodeCause old new (Err Short) = new ≡ old

-- A damaged block is the one that was read last, and is outside the grammar of an index block.
abbrev pub IsNodeDamage : {T : Type 0} → Layout → Bool → Blocks → Given → Given → Result T NodeFault → Type 0
IsNodeDamage g tells contents old new (Ok value) = old.count ≤ new.count
IsNodeDamage g tells contents old new (Err ReadFault) = Unit {0}
IsNodeDamage g tells contents old new (Err (Damaged b)) = IsDamage g tells contents old new b
IsNodeDamage g tells contents old new (Err OutOfMemory) = Unit {0}
IsNodeDamage g tells contents old new (Err Short) = Unit {0}

-- a fact of the block that is damaged, where one is
abbrev pub IfNodeDamaged : {T : Type 0} → Result T NodeFault → (ℕ → Type 0) → Type 0
IfNodeDamaged (Ok value) fact = Unit {0}
IfNodeDamaged (Err ReadFault) fact = Unit {0}
IfNodeDamaged (Err (Damaged b)) fact = fact b
IfNodeDamaged (Err OutOfMemory) fact = Unit {0}
IfNodeDamaged (Err Short) fact = Unit {0}
