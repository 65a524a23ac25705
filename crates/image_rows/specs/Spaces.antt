-- What is found in counts and free blocks.
use Rattle.std.specs.Prelude.{◌≡◌, List, [], ◌∷◌, Some}
use Rattle.vol_numbers.specs.declared.block.Block.{Block}
use Rattle.block_format.specs.declared.inode.Inode.TheVariants.{Unused, File, Directory}
use Rattle.place_words.specs.Different.{span}
use Rattle.block_format.specs.declared.slot.Slot.TheVariants as slots
use Rattle.image_model.specs.Finds.{early_finding}
use Rattle.image_model.specs.declared.finding.Finding.TheVariants.{WrongCount, NoReserve}
use Rattle.image_rows.specs.Images.{index_block, inode_block, directory_block, count_block, ones, counts, with_blocks}

-- a block that has two pointers is counted three times
abbrev pub third_pointer : List Block
third_pointer = with_blocks ((3, count_block ((105, 3) ∷ counts)) ∷ [])

-- a number behind the last block is counted
abbrev pub counted_behind : List Block
counted_behind = with_blocks ((3, count_block ((1000, 1) ∷ counts)) ∷ [])

-- counts that are not the number of pointers
pub record WrongCountRows : Type 0 where
  pub found_in_third_pointer : early_finding third_pointer ≡ Some (WrongCount 105 3 2)
  pub found_in_counted_behind : early_finding counted_behind ≡ Some (WrongCount 1000 1 0)

-- the first file has 45 blocks, and 15 are free
abbrev pub fifteen_free : List Block
fifteen_free = with_blocks (
    (3, count_block (ones 101 49))
    ∷ (101, inode_block (Unused ∷ Directory 1 0 103 ∷ File 184320 1 104 ∷ []))
    ∷ (103, directory_block (slots.Entry 2 (97 ∷ []) ∷ []))
    ∷ (104, index_block (span 105 45))
    ∷ [])

-- fewer than 16 free blocks
pub record NoReserveRows : Type 0 where
  pub found_in_fifteen_free : early_finding fifteen_free ≡ Some (NoReserve 15)
