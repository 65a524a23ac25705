-- Laws of inodes in blocks.
use Rattle.std.specs.Prelude.{◌≡◌, ◌<◌, true, All, ◌/◌, ◌%◌, ℕ, List, slice_index}
use Rattle.std.specs.List.{AllByRecursion}
use Rattle.vol_numbers.specs.Layout.{Layout, IsValid}
use Rattle.disk_model.specs.Disk.{Given}
use Rattle.block_format.specs.Index.{IsPointer}
use Rattle.block_format.specs.declared.inode.Inode.{Inode}
use Rattle.block_tree.specs.Root.{tree_pointers}
use Rattle.block_tree.specs.Tree.{Blocks, index_at}
use Rattle.inode_file.specs.Inodes.{InodeTable, inode_of, SpellsInodeAt, SpellsInodes, Stands}
use Rattle.inode_file.specs.Loading.{IsWhole, IsDamage}
use Rattle.inode_file.specs.Rewriting.{table_pointers}

-- The inode of a number is the one at its position in its block.
abbrev pub NumberSpelled : Type 0
NumberSpelled = (read : Blocks) (index : ℕ) (inodes : List Inode) → SpellsInodes read index inodes
    → (n : ℕ) → n < 65536 → SpellsInodeAt read (slice_index (index_at read index) (n / 64)) (n % 64) (inode_of inodes n)

-- The same blocks spell the same inodes.
abbrev pub OneTable : Type 0
OneTable = (read : Blocks) (index : ℕ) (inodes other : List Inode) → SpellsInodes read index inodes → SpellsInodes read index other → inodes ≡ other

-- What stands in blocks stands wherever these blocks are as they were.
abbrev pub TableStays : Type 0
TableStays = (read after : Blocks) (t : InodeTable) → Stands read t → AllByRecursion (λ b. after b ≡ read b) (table_pointers t) → Stands after t

-- The pointers of a table are those of the tree of height 1 whose index is the inode index.
abbrev pub TreeOfTable : Type 0
TreeOfTable = (read : Blocks) (t : InodeTable) → Stands read t → tree_pointers read (record { height = 1; ptr = t.index }) ≡ table_pointers t

-- Where the blocks spell inodes within the rules, none of them is damaged.
abbrev pub NotDamaged : Type 0
NotDamaged = (g : Layout) (contents : Blocks) (index : ℕ) (inodes : List Inode) → IsValid g → 0 < index → SpellsInodes contents index inodes
    → All (IsPointer g) (index_at contents index) → ((n : ℕ) → IsWhole g (inode_of inodes n)) → (old new : Given) (b : ℕ) → IsDamage g true contents index old new b → ⊥
