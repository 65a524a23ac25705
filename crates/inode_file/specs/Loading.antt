-- What loading the inodes answers.
use Rattle.std.specs.Prelude.{◌≡◌, ◌<◌, ◌≤◌, ◌⊎◌, ◌+◌, ◌-◌, ◌^◌, ℕ, Bool, true, IsTrue, min, List, All, take, Result, Ok, Err}
use Rattle.vol_numbers.specs.Layout.{Layout}
use Rattle.disk_model.specs.Disk.{Given}
use Rattle.block_format.specs.Words.{words}
use Rattle.block_format.specs.Index.{SpellsIndex, IsPointer}
use Rattle.block_format.specs.Inode.{SpellsInode, inode_part, inode_shape, pointer_of}
use Rattle.block_format.specs.declared.inode.Inode.{Inode}
use Rattle.place_words.specs.Different.{is_among}
use Rattle.block_tree.specs.Tree.{Blocks, index_at}
use Rattle.block_tree.specs.declared.fault.TreeFault.{TreeFault}
use Rattle.block_tree.specs.declared.fault.TreeFault.TheVariants.{Device, Damaged, OutOfMemory}
use Rattle.inode_file.specs.Inodes.{InodeTable, inode_of}

-- an inode in shape, which points to no block or to one of the area
pub record IsWhole (g : Layout) (inode : Inode) : Type 0 where
  pub shape : IsTrue (inode_shape inode)
  pub pointer : IsPointer g (pointer_of inode)

-- All pointers of a table lead nowhere or into the area: those of the inode index and those of the inodes.
pub record IsWithin (g : Layout) (t : InodeTable) : Type 0 where
  pub pointers : All (IsPointer g) t.pointers
  pub inodes : (n : ℕ) → IsWhole g (inode_of t.inodes n)

-- Some inode of the block is outside the grammar.
pub record IsNoInodeBlock (g : Layout) (bytes : List ℕ) : Type 0 where
  pub position : ℕ
  pub below : position < 64
  pub outside : (inode : Inode) → SpellsInode g inode (inode_part position bytes) → ⊥

-- The block is the inode index, and its bytes are outside the grammar: some pointer leads neither nowhere nor into the area.
pub record IsNoIndex (g : Layout) (index b : ℕ) (bytes : List ℕ) : Type 0 where
  pub is : b ≡ index
  pub outside : (ptrs : List ℕ) → SpellsIndex g ptrs bytes → ⊥
  pub pointer : All (IsPointer g) (take 1024 (words bytes)) → ⊥

-- The block is one to which the inode index points, and its bytes are outside the grammar.
pub record IsNoBlockOf (g : Layout) (tells : Bool) (contents : Blocks) (index b : ℕ) (bytes : List ℕ) : Type 0 where
  pub some : 0 < b
  pub among : IsTrue tells → is_among (index_at contents index) b ≡ true
  pub outside : IsNoInodeBlock g bytes

-- The block that was read last in the call is this one, and is outside the grammar. Where the disk tells its contents, they have the bytes that were read.
pub record IsDamage (g : Layout) (tells : Bool) (contents : Blocks) (index : ℕ) (old new : Given) (b : ℕ) : Type 0 where
  pub number : new.at ≡ b
  pub rose : min (old.count + 1) (2 ^ 64 - 1) ≤ new.count
  pub outside : IsNoIndex g index b new.block.bytes ⊎ IsNoBlockOf g tells contents index b new.block.bytes
  pub stands : IsTrue tells → contents b ≡ new.block.bytes

-- what a fault tells of the block that was read last
abbrev pub HasDamage : Layout → Bool → Blocks → ℕ → Given → Given → TreeFault → Type 0
HasDamage g tells contents index old new Device = Unit {0}
HasDamage g tells contents index old new (Damaged b) = IsDamage g tells contents index old new b
HasDamage g tells contents index old new OutOfMemory = Unit {0}

-- the same of an answer
abbrev pub IsLoadDamage : {T : Type 0} → Layout → Bool → Blocks → ℕ → Given → Given → Result T TreeFault → Type 0
IsLoadDamage g tells contents index old new (Ok value) = old.count ≤ new.count
IsLoadDamage g tells contents index old new (Err fault) = HasDamage g tells contents index old new fault
