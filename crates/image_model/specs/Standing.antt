-- Files and directories that stand in blocks, as a point plans them.
use Rattle.std.specs.Prelude.{◌≡◌, ◌<◌, ℕ, ◌-◌, ◌*◌, ◌==◌, if◌then◌else◌, Option, Some, None, true, false, List, ◌++◌, length, take, drop, replicate}
use Rattle.block_format.specs.Inode.{blocks_of}
use Rattle.block_format.specs.declared.slot.Slot.{Slot}
use Rattle.block_tree.specs.Tree.{Blocks, block_below}
use Rattle.dir_slots.specs.Pages.{IsPage, pages_for}
use Rattle.dir_slots.specs.Slots.{IsDirectory}

-- the block, where there is one
abbrev pub some_block : ℕ → Option ℕ
some_block block = if block == 0 then None else Some block

-- the block at a place of a file of these bytes, filled up with zeros
abbrev pub file_block : List ℕ → ℕ → List ℕ
file_block bytes place = let part : List ℕ = take 4096 (drop (4096 * place) bytes) in part ++ replicate (4096 - length part) 0

-- a block's first 4,096 bytes, with zeros behind them where it has fewer
abbrev pub as_block : List ℕ → List ℕ
as_block bytes = take 4096 (bytes ++ replicate 4096 0)

-- A place without a block is one of zeros, and a block has what the file has at its place in its first 4,096 bytes.
pub record PlaceStands (read : Blocks) (block : ℕ) (bytes : List ℕ) : Type 0 where
  pub hole : (block == 0) ≡ true → bytes ≡ replicate 4096 0
  pub spelled : (block == 0) ≡ false → as_block (read block) ≡ bytes

-- The blocks below a pointer are those of a file of these bytes.
abbrev pub FileStands : Blocks → List ℕ → ℕ → ℕ → Type 0
FileStands read bytes height ptr = (place : ℕ) → place < blocks_of (length bytes) → PlaceStands read (block_below read height ptr place) (file_block bytes place)

-- The blocks below a pointer spell a directory of these slots, and none is wanting.
pub record DirectoryStands (read : Blocks) (slots : List Slot) (height ptr : ℕ) : Type 0 where
  pub directory : IsDirectory slots
  pub there : (place : ℕ) → place < pages_for (length slots) → (block_below read height ptr place == 0) ≡ false
  pub spelled : (place : ℕ) → place < pages_for (length slots) → IsPage slots place (read (block_below read height ptr place))
