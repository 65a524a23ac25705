-- Two faults in one image, of phases that follow each other: the earlier phase has the finding.
use Rattle.std.specs.Prelude.{◌≡◌, List, [], ◌∷◌, Some}
use Rattle.vol_numbers.specs.declared.block.Block.{Block}
use Rattle.block_format.specs.Root.{root_bytes}
use Rattle.block_format.specs.declared.inode.Inode.TheVariants.{Unused, File, Directory}
use Rattle.block_format.specs.declared.slot.Slot.TheVariants as slots
use Rattle.place_words.specs.Different.{span}
use Rattle.image_model.specs.Finds.{early_finding}
use Rattle.image_model.specs.declared.finding.Finding.TheVariants.{NoRoot, BadGeometry, BadPointer, MixedBlock, BadTail, BadDirectory, NotATree, WrongCount, NoReserve}
use Rattle.image_rows.specs.Images.{index_block, inode_block, directory_block, count_block, ones, filled, root, entries, counts, with_blocks, with_byte}

-- no shape of a root, and a log of 63 blocks
abbrev pub root_and_geometry : List Block
root_and_geometry = with_blocks (
    (1, with_byte (root_bytes (record root { layout = record { blocks = 165; log_blocks = 63 } })) 0 0)
    ∷ [])

-- a log of 63 blocks, and no inode index
abbrev pub geometry_and_pointer : List Block
geometry_and_pointer = with_blocks (
    (1, root_bytes (record root { layout = record { blocks = 165; log_blocks = 63 }; inode_index = 0 }))
    ∷ [])

-- a place with a block of the counts, and one with the block of the root directory
abbrev pub pointer_and_mixed : List Block
pointer_and_mixed = with_blocks ((104, index_block (103 ∷ 3 ∷ [])) ∷ [])

-- the block of the root directory as that of a place, and a tail in the other file
abbrev pub mixed_and_tail : List Block
mixed_and_tail = with_blocks (
    (101, inode_block (Unused ∷ Directory 2 0 103 ∷ File 5000 1 104 ∷ File 4095 0 105 ∷ []))
    ∷ (104, index_block (103 ∷ 106 ∷ []))
    ∷ [])

-- a tail of number 3, and equal names
abbrev pub tail_and_directory : List Block
tail_and_directory = with_blocks (
    (101, inode_block (Unused ∷ Directory 2 0 103 ∷ File 5000 1 104 ∷ File 4095 0 105 ∷ []))
    ∷ (103, with_byte (directory_block entries) 262 97)
    ∷ [])

-- equal names, and number 1 named
abbrev pub directory_and_tree : List Block
directory_and_tree = with_blocks ((103, directory_block (slots.Entry 1 (97 ∷ []) ∷ slots.Entry 3 (97 ∷ []) ∷ [])) ∷ [])

-- no entry names number 3, and block 50 is counted
abbrev pub tree_and_count : List Block
tree_and_count = with_blocks (
    (3, count_block ((50, 1) ∷ counts))
    ∷ (103, directory_block (slots.Entry 2 (97 ∷ []) ∷ []))
    ∷ [])

-- 15 blocks are free, and block 101 is counted twice
abbrev pub count_and_reserve : List Block
count_and_reserve = with_blocks (
    (3, count_block ((101, 2) ∷ ones 102 48))
    ∷ (101, inode_block (Unused ∷ Directory 1 0 103 ∷ File 184320 1 104 ∷ []))
    ∷ (103, directory_block (slots.Entry 2 (97 ∷ []) ∷ []))
    ∷ (104, index_block (span 105 45))
    ∷ [])

-- 15 blocks are free, and the record in the log is of kind 7
abbrev pub reserve_and_log : List Block
reserve_and_log = with_blocks (
    (1, root_bytes (record root { records = 1; log_used = 1 }))
    ∷ (3, count_block (ones 101 49))
    ∷ (5, filled (7 ∷ []))
    ∷ (101, inode_block (Unused ∷ Directory 1 0 103 ∷ File 184320 1 104 ∷ []))
    ∷ (103, directory_block (slots.Entry 2 (97 ∷ []) ∷ []))
    ∷ (104, index_block (span 105 45))
    ∷ [])

-- the earlier phase
pub record OrderRows : Type 0 where
  pub found_in_root_and_geometry : early_finding root_and_geometry ≡ Some NoRoot
  pub found_in_geometry_and_pointer : early_finding geometry_and_pointer ≡ Some BadGeometry
  pub found_in_pointer_and_mixed : early_finding pointer_and_mixed ≡ Some (BadPointer 3)
  pub found_in_mixed_and_tail : early_finding mixed_and_tail ≡ Some (MixedBlock 103)
  pub found_in_tail_and_directory : early_finding tail_and_directory ≡ Some (BadTail 3)
  pub found_in_directory_and_tree : early_finding directory_and_tree ≡ Some (BadDirectory 1)
  pub found_in_tree_and_count : early_finding tree_and_count ≡ Some (NotATree 3)
  pub found_in_count_and_reserve : early_finding count_and_reserve ≡ Some (WrongCount 101 2 1)
  pub found_in_reserve_and_log : early_finding reserve_and_log ≡ Some (NoReserve 15)
