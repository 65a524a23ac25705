-- Inodes by their numbers, and the blocks that spell them.
use Rattle.std.specs.Prelude.{◌≡◌, ◌<◌, ℕ, zero, suc, ◌*◌, Bool, true, false, IsTrue, List, length, take, drop, slice_index, slice_index_or, Some}
use Rattle.block_format.specs.Inode.{inode_at, inode_part, inode_shape}
use Rattle.block_format.specs.declared.inode.Inode.{Inode}
use Rattle.block_format.specs.declared.inode.Inode.TheVariants.{Unused, File, Directory}
use Rattle.block_tree.specs.Tree.{Blocks, index_at}

-- the inode of a number
abbrev pub inode_of : List Inode → ℕ → Inode
inode_of inodes n = slice_index_or inodes n Unused

-- the inodes of the block at a position: of 64 numbers each
abbrev pub block_of : List Inode → ℕ → List Inode
block_of inodes k = take 64 (drop (64 * k) inodes)

-- whether the number is a node's
abbrev pub is_used : Inode → Bool
is_used Unused = false
is_used (File size height ptr) = true
is_used (Directory width height ptr) = true

-- An inode behind a pointer of the inode index: where there is no block, it is unused, else the block spells it at its position.
abbrev pub SpellsInodeAt : Blocks → ℕ → ℕ → Inode → Type 0
SpellsInodeAt read zero j inode = inode ≡ Unused
SpellsInodeAt read (suc b) j inode = inode_at (inode_part j (read (suc b))) ≡ Some inode

-- A pointer of the inode index leads to these 64 inodes.
abbrev pub LeadsTo : Blocks → ℕ → List Inode → Type 0
LeadsTo read ptr block = (j : ℕ) → j < 64 → SpellsInodeAt read ptr j (inode_of block j)

-- The inode index and the blocks to which it points spell the inode of each number.
pub record SpellsInodes (read : Blocks) (index : ℕ) (inodes : List Inode) : Type 0 where
  pub many : length inodes ≡ 65536
  pub each : (k : ℕ) → k < 1024 → LeadsTo read (slice_index (index_at read index) k) (block_of inodes k)

-- Inodes in memory, and those that stand in blocks.
pub record InodeTable : Type 0 where
  -- the inode of each number
  pub inodes : List Inode
  -- the inodes as they stand in blocks
  pub stored : List Inode
  -- the inode block at each position, 0 where there is none, and the inode index that has these pointers
  pub pointers : List ℕ
  pub index : ℕ

-- What holds of every table: each inode is in shape, and there is an inode index.
pub record IsTable (t : InodeTable) : Type 0 where
  pub inodes : length t.inodes ≡ 65536
  pub stored : length t.stored ≡ 65536
  pub pointers : length t.pointers ≡ 1024
  pub index : 0 < t.index
  pub shape : (n : ℕ) → IsTrue (inode_shape (inode_of t.inodes n))

-- What the table says to stand in blocks stands there.
pub record Stands (read : Blocks) (t : InodeTable) : Type 0 where
  pub index : index_at read t.index ≡ t.pointers
  pub inodes : SpellsInodes read t.index t.stored
