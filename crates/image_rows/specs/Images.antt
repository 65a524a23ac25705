-- Images that are made from the grammar: volumes of the least size, with zeros where nothing is said.
use Rattle.std.specs.Prelude.{ℕ, zero, suc, ◌+◌, ◌-◌, ◌==◌, if◌then◌else◌, List, [], ◌∷◌, ◌++◌, length, map, replicate, slice_set}
use Rattle.std.specs.List.{flat_map}
use Rattle.vol_numbers.specs.declared.block.Block.{Block}
use Rattle.block_format.specs.Counts.{count_bytes}
use Rattle.block_format.specs.Index.{index_bytes}
use Rattle.block_format.specs.Inode.{inode_bytes}
use Rattle.block_format.specs.Root.{Root, root_bytes}
use Rattle.block_format.specs.Slot.{slot_bytes}
use Rattle.block_format.specs.declared.inode.Inode.{Inode}
use Rattle.block_format.specs.declared.inode.Inode.TheVariants.{Unused, File, Directory}
use Rattle.block_format.specs.declared.slot.Slot.{Slot}
use Rattle.block_format.specs.declared.slot.Slot.TheVariants as slots
use Rattle.place_words.specs.Different.{span}

-- ---- blocks

-- with zeros up to the end of a block
abbrev pub filled : List ℕ → List ℕ
filled bytes = bytes ++ replicate (4096 - length bytes) 0

abbrev pub index_block : List ℕ → List ℕ
index_block pointers = filled (index_bytes pointers)

-- the inodes of the numbers from the first of a block on
abbrev pub inode_block : List Inode → List ℕ
inode_block inodes = filled (flat_map inode_bytes inodes)

abbrev pub directory_block : List Slot → List ℕ
directory_block entries = filled (flat_map slot_bytes entries)

-- so many bytes, and zeros behind them
abbrev pub data_block : ℕ → ℕ → List ℕ
data_block byte count = filled (replicate count byte)

-- what stands beside a number, 0 where it isn't there
abbrev pub beside : List (ℕ × ℕ) → ℕ → ℕ
beside [] n = 0
beside (e ∷ es) n = if e.0 == n then e.1 else beside es n

-- the counts of these blocks, 0 for each other one
abbrev pub count_block : List (ℕ × ℕ) → List ℕ
count_block counts = count_bytes (map (beside counts) (span 0 1024))

-- a count of 1 for so many blocks from one on
abbrev pub ones : ℕ → ℕ → List (ℕ × ℕ)
ones b n = map (λ k. (k, 1)) (span b n)

-- ---- images

-- what stands in a block: the first of these that is for it, or zeros
abbrev pub standing : List (ℕ × List ℕ) → ℕ → List ℕ
standing [] b = replicate 4096 0
standing (e ∷ es) b = if e.0 == b then e.1 else standing es b

-- so many blocks, from one on
abbrev pub image_from : (ℕ → List ℕ) → ℕ → ℕ → List Block
image_from read b zero = []
image_from read b (suc n) = record { bytes = read b } ∷ image_from read (b + 1) n

-- an image of 165 blocks
abbrev pub image_of : List (ℕ × List ℕ) → List Block
image_of blocks = image_from (standing blocks) 0 165

-- ---- a small volume

-- Of 165 blocks with 64 for the log: one count block, and an area of 64 blocks from 101 on.
abbrev pub root : Root
root = record { layout = record { blocks = 165; log_blocks = 64 }; point = 2; inode_index = 102; records = 0; log_used = 0; homes = replicate 128 0 }

-- the root directory, a file of 5,000 bytes, and one of 4,096 bytes that shares its first block
abbrev pub inodes : List Inode
inodes = Unused ∷ Directory 2 0 103 ∷ File 5000 1 104 ∷ File 4096 0 105 ∷ []

abbrev pub entries : List Slot
entries = slots.Entry 2 (97 ∷ []) ∷ slots.Entry 3 (98 ∷ []) ∷ []

abbrev pub counts : List (ℕ × ℕ)
counts = (101, 1) ∷ (102, 1) ∷ (103, 1) ∷ (104, 1) ∷ (105, 2) ∷ (106, 1) ∷ []

abbrev pub small_blocks : List (ℕ × List ℕ)
small_blocks =
    (1, root_bytes root)
    ∷ (3, count_block counts)
    ∷ (101, inode_block inodes)
    ∷ (102, index_block (101 ∷ []))
    ∷ (103, directory_block entries)
    ∷ (104, index_block (105 ∷ 106 ∷ []))
    ∷ (105, data_block 65 4096)
    ∷ (106, data_block 66 904)
    ∷ []

-- the small volume with these blocks in place of its own
abbrev pub with_blocks : List (ℕ × List ℕ) → List Block
with_blocks changed = image_of (changed ++ small_blocks)

abbrev pub small : List Block
small = with_blocks []

-- with one byte set
abbrev pub with_byte : List ℕ → ℕ → ℕ → List ℕ
with_byte bytes i byte = slice_set bytes i byte
