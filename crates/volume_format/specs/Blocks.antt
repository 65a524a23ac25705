-- The blocks that a format writes.
use Rattle.std.specs.Prelude.{ℕ, ◌*◌, ◌∷◌, ◌++◌, replicate}
use Rattle.vol_numbers.specs.Layout.{Layout, area_start}
use Rattle.vol_numbers.specs.declared.block.Block.{Block}
use Rattle.block_format.specs.Index.{index_bytes}
use Rattle.block_format.specs.Root.{root_bytes}
use Rattle.block_tree.specs.Planned.{pointers_of}
use Rattle.image_model.specs.Fresh.{fresh_count, fresh_root}

-- the i-th count block: the counts of 1,024 blocks
abbrev pub count_block : Layout → ℕ → Block
count_block g i = record { bytes = index_bytes (pointers_of (fresh_count g) (1024 * i) 1024) }

-- The first entry of the inode index is the inode block.
abbrev pub index_block : Layout → Block
index_block g = record { bytes = index_bytes (area_start g ∷ replicate 1023 0) }

-- the inodes of the numbers 0 to 63, 64 bytes each: number 1 is an empty directory, and the others are unused
abbrev pub inode_block : Block
inode_block = record { bytes = replicate 64 0 ++ (2 ∷ replicate 4031 0) }

-- the spelling of a fresh root
abbrev pub root_block : Layout → Block
root_block g = record { bytes = root_bytes (fresh_root g) }
