-- An inode of 64 bytes.
use Rattle.std.specs.Prelude.{◌≡◌, ◌<◌, ◌+◌, ◌*◌, ◌/◌, ◌^◌, ◌==◌, ◌&&◌, ◌||◌, nat_le, nat_lt, if◌then◌else◌, ℕ, Bool, true, List, ◌∷◌, ◌++◌, drop, replicate, slice_index, slice_range, bytes_eq, Option, Some, None, IsTrue}
use Rattle.byteorder.specs.Endian.{little_bytes, little_number}
use Rattle.vol_numbers.specs.Layout.{Layout}
use Rattle.block_format.specs.Index.{IsPointer}
use Rattle.block_format.specs.declared.inode.Inode.{Inode}
use Rattle.block_format.specs.declared.inode.Inode.TheVariants.{Unused, File, Directory}

-- how many blocks so many bytes take
abbrev pub blocks_of : ℕ → ℕ
blocks_of size = (size + 4095) / 4096

-- the least height whose places are enough for so many blocks
abbrev pub height_of : ℕ → ℕ
height_of blocks = if nat_le blocks 1 then 0 else if nat_le blocks 1024 then 1 else 2

-- a kind, a height, a pointer and a size, with zeros between and behind
abbrev pub node_bytes : ℕ → ℕ → ℕ → ℕ → List ℕ
node_bytes kind height ptr size = kind ∷ height ∷ 0 ∷ 0 ∷ little_bytes 4 ptr ++ little_bytes 8 size ++ replicate 48 0

-- the one spelling of an inode
abbrev pub inode_bytes : Inode → List ℕ
inode_bytes Unused = replicate 64 0
inode_bytes (File size height ptr) = node_bytes 1 height ptr size
inode_bytes (Directory width height ptr) = node_bytes 2 height ptr (256 * width)

-- The height is that of the size. Where the size is 0, so is the pointer.
abbrev pub node_fits : ℕ → ℕ → ℕ → Bool
node_fits size height ptr = height == height_of (blocks_of size) && (nat_lt 0 size || ptr == 0)

-- within all rules but that of the place to which it points
abbrev pub inode_shape : Inode → Bool
inode_shape Unused = true
inode_shape (File size height ptr) = nat_le size 4294967296 && node_fits size height ptr
inode_shape (Directory width height ptr) = nat_le width 65534 && node_fits (256 * width) height ptr

abbrev pub pointer_of : Inode → ℕ
pointer_of Unused = 0
pointer_of (File size height ptr) = ptr
pointer_of (Directory width height ptr) = ptr

-- what the fields say, in bytes of any shape
unfoldable pub inode_in : List ℕ → Inode
inode_in b =
    if slice_index b 0 == 1 then File (little_number 8 (drop 8 b)) (slice_index b 1) (little_number 4 (drop 4 b))
    else if slice_index b 0 == 2 then Directory (little_number 8 (drop 8 b) / 256) (slice_index b 1) (little_number 4 (drop 4 b))
    else Unused

-- whether bytes are what their fields say, spelled
abbrev pub is_inode : List ℕ → Bool
is_inode b = inode_shape (inode_in b) && bytes_eq (inode_bytes (inode_in b)) b

-- the inode that bytes spell, if they spell one
abbrev pub inode_at : List ℕ → Option Inode
inode_at b = if is_inode b then Some (inode_in b) else None

-- The bytes are the spelling of this inode, wherever it points to.
pub record IsInode (inode : Inode) (bytes : List ℕ) : Type 0 where
  pub shape : IsTrue (inode_shape inode)
  pub number : pointer_of inode < 2 ^ 32
  pub spelled : bytes ≡ inode_bytes inode

-- The bytes are the spelling of this inode, and it points to no block or to one of the area.
pub record SpellsInode (g : Layout) (inode : Inode) (bytes : List ℕ) : Type 0 where
  pub is : IsInode inode bytes
  pub pointer : IsPointer g (pointer_of inode)

-- the bytes of the inode k of a block
abbrev pub inode_part : ℕ → List ℕ → List ℕ
inode_part k bytes = slice_range bytes (64 * k) (64 * k + 64)
