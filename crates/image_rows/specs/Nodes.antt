-- What is found in files and directories, and in the tree.
use Rattle.std.specs.Prelude.{◌≡◌, List, [], ◌∷◌, ◌++◌, Some}
use Rattle.vol_numbers.specs.declared.block.Block.{Block}
use Rattle.block_format.specs.declared.inode.Inode.TheVariants.{Unused, File, Directory}
use Rattle.image_model.specs.Finds.{early_finding}
use Rattle.block_format.specs.declared.slot.Slot.TheVariants as slots
use Rattle.image_model.specs.declared.finding.Finding.TheVariants.{MixedBlock, BadTail, BadDirectory, NotATree}
use Rattle.image_rows.specs.Images.{index_block, inode_block, directory_block, inodes, entries, with_blocks, with_byte}

-- a place of the first file has the block of the root directory
abbrev pub directory_shared : List Block
directory_shared = with_blocks ((104, index_block (103 ∷ 106 ∷ [])) ∷ [])

-- and here its own leaf
abbrev pub leaf_shared : List Block
leaf_shared = with_blocks ((104, index_block (105 ∷ 104 ∷ [])) ∷ [])

-- of two such blocks the least is told
abbrev pub two_shared : List Block
two_shared = with_blocks ((104, index_block (103 ∷ 101 ∷ [])) ∷ [])

-- blocks that are metadata and a file's
pub record MixedBlockRows : Type 0 where
  pub found_in_directory_shared : early_finding directory_shared ≡ Some (MixedBlock 103)
  pub found_in_leaf_shared : early_finding leaf_shared ≡ Some (MixedBlock 104)
  pub found_in_two_shared : early_finding two_shared ≡ Some (MixedBlock 101)

-- the first file ends one byte before its last one that is not 0
abbrev pub byte_behind : List Block
byte_behind = with_blocks ((101, inode_block (Unused ∷ Directory 2 0 103 ∷ File 4999 1 104 ∷ File 4096 0 105 ∷ [])) ∷ [])

-- both files have a tail
abbrev pub least_file : List Block
least_file = with_blocks ((101, inode_block (Unused ∷ Directory 2 0 103 ∷ File 4999 1 104 ∷ File 4095 0 105 ∷ [])) ∷ [])

-- bytes behind the end of a file
pub record BadTailRows : Type 0 where
  pub found_in_byte_behind : early_finding byte_behind ≡ Some (BadTail 2)
  pub found_in_least_file : early_finding least_file ≡ Some (BadTail 2)

-- both files are called a
abbrev pub equal_names : List Block
equal_names = with_blocks ((103, with_byte (directory_block entries) 262 97) ∷ [])

-- the root directory has two slots and no block
abbrev pub directory_hole : List Block
directory_hole = with_blocks ((101, inode_block (Unused ∷ Directory 2 0 0 ∷ File 5000 1 104 ∷ File 4096 0 105 ∷ [])) ∷ [])

-- the root directory has one slot, and an entry in the second
abbrev pub slot_behind : List Block
slot_behind = with_blocks ((101, inode_block (Unused ∷ Directory 1 0 103 ∷ File 5000 1 104 ∷ File 4096 0 105 ∷ [])) ∷ [])

-- the second file is called /
abbrev pub slash_name : List Block
slash_name = with_blocks ((103, with_byte (directory_block entries) 262 47) ∷ [])

-- a byte behind a name is not 0
abbrev pub byte_behind_name : List Block
byte_behind_name = with_blocks ((103, with_byte (directory_block entries) 7 1) ∷ [])

-- a byte of an unused slot is not 0
abbrev pub used_slot : List Block
used_slot = with_blocks ((103, with_byte (directory_block entries) 1380 1) ∷ [])

-- the root directory has 17 slots, and its second block is wanting
abbrev pub second_hole : List Block
second_hole = with_blocks (
    (101, inode_block (Unused ∷ Directory 17 1 107 ∷ File 5000 1 104 ∷ File 4096 0 105 ∷ []))
    ∷ (107, index_block (103 ∷ []))
    ∷ [])

-- number 3 is a directory of one slot, and has no block
abbrev pub other_hole : List Block
other_hole = with_blocks ((101, inode_block (Unused ∷ Directory 2 0 103 ∷ File 5000 1 104 ∷ Directory 1 0 0 ∷ [])) ∷ [])

-- directories that may not be so
pub record BadDirectoryRows : Type 0 where
  pub found_in_equal_names : early_finding equal_names ≡ Some (BadDirectory 1)
  pub found_in_directory_hole : early_finding directory_hole ≡ Some (BadDirectory 1)
  pub found_in_slot_behind : early_finding slot_behind ≡ Some (BadDirectory 1)
  pub found_in_slash_name : early_finding slash_name ≡ Some (BadDirectory 1)
  pub found_in_byte_behind_name : early_finding byte_behind_name ≡ Some (BadDirectory 1)
  pub found_in_used_slot : early_finding used_slot ≡ Some (BadDirectory 1)
  pub found_in_second_hole : early_finding second_hole ≡ Some (BadDirectory 1)
  pub found_in_other_hole : early_finding other_hole ≡ Some (BadDirectory 3)

-- both entries name number 2
abbrev pub named_twice : List Block
named_twice = with_blocks ((103, directory_block (slots.Entry 2 (97 ∷ []) ∷ slots.Entry 2 (98 ∷ []) ∷ [])) ∷ [])

-- an entry names number 1
abbrev pub root_named : List Block
root_named = with_blocks ((103, directory_block (slots.Entry 2 (97 ∷ []) ∷ slots.Entry 1 (98 ∷ []) ∷ [])) ∷ [])

-- an entry names number 4, which is unused
abbrev pub unused_named : List Block
unused_named = with_blocks (
    (101, inode_block (Unused ∷ Directory 3 0 103 ∷ File 5000 1 104 ∷ File 4096 0 105 ∷ []))
    ∷ (103, directory_block (entries ++ slots.Entry 4 (99 ∷ []) ∷ []))
    ∷ [])

-- no entry names number 3
abbrev pub unnamed : List Block
unnamed = with_blocks ((103, directory_block (slots.Entry 2 (97 ∷ []) ∷ [])) ∷ [])

-- two directories, each of which is named in the other alone
abbrev pub ring : List Block
ring = with_blocks (
    (101, inode_block (inodes ++ (Directory 1 0 107 ∷ Directory 1 0 108 ∷ [])))
    ∷ (107, directory_block (slots.Entry 5 (97 ∷ []) ∷ []))
    ∷ (108, directory_block (slots.Entry 4 (97 ∷ []) ∷ []))
    ∷ [])

-- numbers that are named or reached wrongly
pub record NotATreeRows : Type 0 where
  pub found_in_named_twice : early_finding named_twice ≡ Some (NotATree 2)
  pub found_in_root_named : early_finding root_named ≡ Some (NotATree 1)
  pub found_in_unused_named : early_finding unused_named ≡ Some (NotATree 4)
  pub found_in_unnamed : early_finding unnamed ≡ Some (NotATree 3)
  pub found_in_ring : early_finding ring ≡ Some (NotATree 4)
