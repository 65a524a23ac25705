-- Causes of faults.
use Rattle.std.specs.Prelude.{◌≡◌, ◌≢◌, ◌<◌, ◌≤◌, ◌+◌, ◌-◌, ◌^◌, ℕ, Bool, IsTrue, min, slice_index, List, All, take, Result, Ok, Err}
use Rattle.vol_numbers.specs.Cause.{raised}
use Rattle.vol_numbers.specs.Layout.{Layout}
use Rattle.disk_model.specs.Disk.{Given}
use Rattle.block_format.specs.Words.{words}
use Rattle.block_format.specs.Index.{IsPointer, SpellsIndex}
use Rattle.block_tree.specs.Tree.{Blocks}
use Rattle.block_tree.specs.declared.fault.LookFault.{LookFault}
use Rattle.block_tree.specs.declared.fault.LookFault.TheVariants.{Device, Damaged}
use Rattle.block_tree.specs.declared.fault.TreeFault.{TreeFault}
use Rattle.block_tree.specs.declared.fault.TreeFault.TheVariants as trees

abbrev pub as_tree_fault : LookFault → TreeFault
as_tree_fault Device = trees.Device
as_tree_fault (Damaged b) = trees.Damaged b

-- the disk's count of faults rose, once, exactly where the answer is a device's fault
abbrev pub HasLookCause : {T : Type 0} → ℕ → ℕ → Result T LookFault → Type 0
HasLookCause old new (Ok value) = new ≡ old
HasLookCause old new (Err Device) = new ≡ raised old
HasLookCause old new (Err (Damaged b)) = new ≡ old

abbrev pub HasTreeCause : {T : Type 0} → ℕ → ℕ → Result T TreeFault → Type 0
HasTreeCause old new (Ok value) = new ≡ old
HasTreeCause old new (Err trees.Device) = new ≡ raised old
HasTreeCause old new (Err (trees.Damaged b)) = new ≡ old
HasTreeCause old new (Err trees.OutOfMemory) = new ≡ old

-- The block that was read last in the call is this one, and is outside the grammar of an index: some pointer in it leads neither nowhere nor
-- into the area. Where the disk tells its contents, it is what they have there.
pub record IsDamage (g : Layout) (tells : Bool) (contents : Blocks) (old new : Given) (b : ℕ) : Type 0 where
  pub number : new.at ≡ b
  pub rose : min (old.count + 1) (2 ^ 64 - 1) ≤ new.count
  pub outside : (ptrs : List ℕ) → SpellsIndex g ptrs new.block.bytes → ⊥
  pub pointer : All (IsPointer g) (take 1024 (words new.block.bytes)) → ⊥
  pub stands : IsTrue tells → contents b ≡ new.block.bytes

abbrev pub IsLookDamage : {T : Type 0} → Layout → Bool → Blocks → Given → Given → Result T LookFault → Type 0
IsLookDamage g tells contents old new (Ok value) = old.count ≤ new.count
IsLookDamage g tells contents old new (Err Device) = Unit {0}
IsLookDamage g tells contents old new (Err (Damaged b)) = IsDamage g tells contents old new b

abbrev pub IsTreeDamage : {T : Type 0} → Layout → Bool → Blocks → Given → Given → Result T TreeFault → Type 0
IsTreeDamage g tells contents old new (Ok value) = old.count ≤ new.count
IsTreeDamage g tells contents old new (Err trees.Device) = Unit {0}
IsTreeDamage g tells contents old new (Err (trees.Damaged b)) = IsDamage g tells contents old new b
IsTreeDamage g tells contents old new (Err trees.OutOfMemory) = Unit {0}

-- a fact of the block that is damaged, where one is
abbrev pub IfLookDamaged : {T : Type 0} → Result T LookFault → (ℕ → Type 0) → Type 0
IfLookDamaged (Ok value) fact = Unit {0}
IfLookDamaged (Err Device) fact = Unit {0}
IfLookDamaged (Err (Damaged b)) fact = fact b

abbrev pub IfTreeDamaged : {T : Type 0} → Result T TreeFault → (ℕ → Type 0) → Type 0
IfTreeDamaged (Ok value) fact = Unit {0}
IfTreeDamaged (Err trees.Device) fact = Unit {0}
IfTreeDamaged (Err (trees.Damaged b)) fact = fact b
IfTreeDamaged (Err trees.OutOfMemory) fact = Unit {0}

-- This is the block that a pointer leads to, which is one.
pub record IsBlockOf (ptr b : ℕ) : Type 0 where
  pub is : b ≡ ptr
  pub some : b ≢ 0

-- This is the block that one of some pointers leads to, from one of them on.
pub record IsBlockAmong (first : ℕ) (ptrs : List ℕ) (b : ℕ) : Type 0 where
  pub at : ℕ
  pub from : first ≤ at
  pub below : at < 1024
  pub block : IsBlockOf (slice_index ptrs at) b
