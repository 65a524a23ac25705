-- Two faults of one phase: the first of them is found.
use Rattle.std.specs.Prelude.{◌≡◌, List, [], ◌∷◌, Some}
use Rattle.vol_numbers.specs.declared.block.Block.{Block}
use Rattle.block_format.specs.declared.inode.Inode.TheVariants.{Unused, File, Directory}
use Rattle.image_model.specs.Finds.{early_finding}
use Rattle.image_model.specs.declared.finding.Finding.TheVariants.{BadPointer, BadInode, BadDirectory, NotATree, WrongCount}
use Rattle.image_rows.specs.Images.{index_block, inode_block, directory_block, count_block, inodes, entries, counts, with_blocks, with_byte}

-- both files are of kind 3
abbrev pub two_kinds : List Block
two_kinds = with_blocks ((101, with_byte (with_byte (inode_block inodes) 128 3) 192 3) ∷ [])

-- the second file leads to the selector, and the first to a block of the counts
abbrev pub two_pointers : List Block
two_pointers = with_blocks (
    (101, inode_block (Unused ∷ Directory 2 0 103 ∷ File 5000 1 104 ∷ File 4096 0 1 ∷ []))
    ∷ (104, index_block (3 ∷ 106 ∷ []))
    ∷ [])

-- number 3 is a directory that has a slot and no block, and both names in the root directory are equal
abbrev pub two_directories : List Block
two_directories = with_blocks (
    (101, inode_block (Unused ∷ Directory 2 0 103 ∷ File 5000 1 104 ∷ Directory 1 0 0 ∷ []))
    ∷ (103, with_byte (directory_block entries) 262 97)
    ∷ [])

-- no entry names number 2 or 3
abbrev pub two_unnamed : List Block
two_unnamed = with_blocks ((103, directory_block []) ∷ [])

-- two blocks are counted once more than they have pointers
abbrev pub two_counts : List Block
two_counts = with_blocks ((3, count_block ((106, 2) ∷ (105, 3) ∷ counts)) ∷ [])

-- the first of two
pub record FirstRows : Type 0 where
  pub found_in_two_kinds : early_finding two_kinds ≡ Some (BadInode 2)
  pub found_in_two_pointers : early_finding two_pointers ≡ Some (BadPointer 3)
  pub found_in_two_directories : early_finding two_directories ≡ Some (BadDirectory 1)
  pub found_in_two_unnamed : early_finding two_unnamed ≡ Some (NotATree 2)
  pub found_in_two_counts : early_finding two_counts ≡ Some (WrongCount 105 3 2)
