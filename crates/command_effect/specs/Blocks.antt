-- The blocks that a write and a truncation leave, place by place.
use Rattle.std.specs.Prelude.{◌≡◌, ◌≤◌, ◌<◌, ◌⊎◌, ℕ, ◌+◌, ◌-◌, ◌*◌, ◌/◌, ◌%◌, ◌&&◌, not, nat_eq, nat_lt, if◌then◌else◌, Bool, IsTrue, List, [], ◌∷◌, ◌++◌, length, take, replicate, slice_index_or}
use Rattle.vol_numbers.specs.declared.block.Block.{Block}
use Rattle.dirty_store.specs.Overlay.{Overlay}
use Rattle.dirty_store.specs.declared.effect.Touched.{Touched}
use Rattle.inode_file.specs.Inodes.{InodeTable}
use Rattle.place_read.specs.Holding.{HoldsFiles}
use Rattle.volume_model.specs.Machine.{Machine, Rules, block_at}

-- The bytes of a place are the old ones, with given bytes from an offset of the file on.
pub record IsLaidOver (old : List ℕ) (offset : ℕ) (given : List ℕ) (place : ℕ) (bytes : List ℕ) : Type 0 where
  pub inside : (j : ℕ) → j < 4096 → offset ≤ 4096 * place + j → 4096 * place + j < offset + length given → slice_index_or bytes j 0 ≡ slice_index_or given (4096 * place + j - offset) 0
  pub outside : (j : ℕ) → j < 4096 → (4096 * place + j < offset) ⊎ (offset + length given ≤ 4096 * place + j) → slice_index_or bytes j 0 ≡ slice_index_or old j 0

-- The block of a place is whole. Where the disk tells, its bytes are those of the file, with what was given.
pub record IsWrittenBlock (tells : Bool) (image : List Block) (inodes : InodeTable) (o : Overlay) (number offset : ℕ) (given : List ℕ) (place : ℕ) (bytes : List ℕ) : Type 0 where
  pub whole : length bytes ≡ 4096
  pub laid : IsTrue tells → (r : Rules) (m : Machine) → HoldsFiles r m image inodes o → IsLaidOver (block_at m.tree (number, place)) offset given place bytes

-- The block of a place is whole. Where the disk tells, its bytes are those of the file up to a size, and zeros from there on.
pub record IsCutBlock (tells : Bool) (image : List Block) (inodes : InodeTable) (o : Overlay) (number size place : ℕ) (bytes : List ℕ) : Type 0 where
  pub whole : length bytes ≡ 4096
  pub cut : IsTrue tells → (r : Rules) (m : Machine) → HoldsFiles r m image inodes o → bytes ≡ take (size % 4096) (block_at m.tree (number, place)) ++ replicate (4096 - size % 4096) 0

-- The touched places are those from one on, in order, and each has such a block.
abbrev pub AreFrom : (ℕ → List ℕ → Type 0) → ℕ → List Touched → Type 0
AreFrom Is first [] = Unit {0}
AreFrom Is first (t ∷ ts) = (t.place ≡ first) × Is first t.block.bytes × AreFrom Is (first + 1) ts

-- how many places have a byte of a write
abbrev pub written_count : ℕ → List ℕ → ℕ
written_count offset [] = 0
written_count offset (byte ∷ rest) = (offset + length (byte ∷ rest) - 1) / 4096 + 1 - offset / 4096

-- how many places a truncation cuts in two
abbrev pub cut_count : ℕ → ℕ → ℕ
cut_count before size = if nat_lt size before && not (nat_eq (size % 4096) 0) then 1 else 0
