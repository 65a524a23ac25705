-- What the walk finds.
use Rattle.std.specs.Prelude.{◌≡◌, List, [], ◌∷◌, Some}
use Rattle.vol_numbers.specs.declared.block.Block.{Block}
use Rattle.block_format.specs.Root.{root_bytes}
use Rattle.block_format.specs.declared.inode.Inode.TheVariants.{Unused, File, Directory}
use Rattle.image_model.specs.Finds.{early_finding}
use Rattle.image_model.specs.declared.finding.Finding.TheVariants.{BadPointer, BadInode}
use Rattle.image_rows.specs.Images.{index_block, inode_block, root, inodes, with_blocks, with_byte}

-- there is no inode index
abbrev pub no_index : List Block
no_index = with_blocks ((1, root_bytes (record root { inode_index = 0 })) ∷ [])

-- the inode index is the last spare block
abbrev pub index_below : List Block
index_below = with_blocks ((1, root_bytes (record root { inode_index = 100 })) ∷ [])

-- the inode index is behind the last block
abbrev pub index_behind : List Block
index_behind = with_blocks ((1, root_bytes (record root { inode_index = 165 })) ∷ [])

-- an entry of the inode index leads nowhere
abbrev pub entry_outside : List Block
entry_outside = with_blocks ((102, index_block (101 ∷ 165 ∷ [])) ∷ [])

-- two entries of the inode index lead to one block
abbrev pub entry_twice : List Block
entry_twice = with_blocks ((102, index_block (101 ∷ 101 ∷ [])) ∷ [])

-- a place of the first file has a block of the counts
abbrev pub block_outside : List Block
block_outside = with_blocks ((104, index_block (105 ∷ 3 ∷ [])) ∷ [])

-- the first file has two blocks, and a third place
abbrev pub place_behind : List Block
place_behind = with_blocks ((104, index_block (105 ∷ 106 ∷ 107 ∷ [])) ∷ [])

-- the leaf of the first file has no pointer
abbrev pub empty_leaf : List Block
empty_leaf = with_blocks ((104, index_block []) ∷ [])

-- the leaf of the first file is the block of the root directory
abbrev pub leaf_twice : List Block
leaf_twice = with_blocks ((101, inode_block (Unused ∷ Directory 2 0 103 ∷ File 5000 1 103 ∷ File 4096 0 105 ∷ [])) ∷ [])

-- the second file has no byte, and a pointer that leads nowhere
abbrev pub stray_outside : List Block
stray_outside = with_blocks ((101, inode_block (Unused ∷ Directory 2 0 103 ∷ File 5000 1 104 ∷ File 0 0 165 ∷ [])) ∷ [])

-- The first file has 1,025 blocks, and its top index a third leaf. That comes before the block 3, which the first leaf leads to.
abbrev pub leaf_behind : List Block
leaf_behind = with_blocks (
    (101, inode_block (Unused ∷ Directory 2 0 103 ∷ File 4198400 2 104 ∷ File 4096 0 105 ∷ []))
    ∷ (104, index_block (107 ∷ 108 ∷ 109 ∷ []))
    ∷ (107, index_block (3 ∷ []))
    ∷ (108, index_block (106 ∷ []))
    ∷ [])

-- the second is a directory with the block of the root directory
abbrev pub page_twice : List Block
page_twice = with_blocks ((101, inode_block (Unused ∷ Directory 2 0 103 ∷ File 5000 1 104 ∷ Directory 1 0 103 ∷ [])) ∷ [])

-- the first file has 1,025 blocks, and its top index no pointer
abbrev pub empty_top : List Block
empty_top = with_blocks (
    (101, inode_block (Unused ∷ Directory 2 0 103 ∷ File 4198400 2 104 ∷ File 4096 0 105 ∷ []))
    ∷ (104, index_block [])
    ∷ [])

-- the second is a directory of no slot, and has a pointer that leads nowhere
abbrev pub directory_stray : List Block
directory_stray = with_blocks ((101, inode_block (Unused ∷ Directory 2 0 103 ∷ File 5000 1 104 ∷ Directory 0 0 165 ∷ [])) ∷ [])

-- pointers that may not be so
pub record BadPointerRows : Type 0 where
  pub found_in_no_index : early_finding no_index ≡ Some (BadPointer 0)
  pub found_in_index_below : early_finding index_below ≡ Some (BadPointer 100)
  pub found_in_index_behind : early_finding index_behind ≡ Some (BadPointer 165)
  pub found_in_entry_outside : early_finding entry_outside ≡ Some (BadPointer 165)
  pub found_in_entry_twice : early_finding entry_twice ≡ Some (BadPointer 101)
  pub found_in_block_outside : early_finding block_outside ≡ Some (BadPointer 3)
  pub found_in_place_behind : early_finding place_behind ≡ Some (BadPointer 107)
  pub found_in_empty_leaf : early_finding empty_leaf ≡ Some (BadPointer 104)
  pub found_in_leaf_twice : early_finding leaf_twice ≡ Some (BadPointer 103)
  pub found_in_stray_outside : early_finding stray_outside ≡ Some (BadPointer 165)
  pub found_in_leaf_behind : early_finding leaf_behind ≡ Some (BadPointer 109)
  pub found_in_page_twice : early_finding page_twice ≡ Some (BadPointer 103)
  pub found_in_empty_top : early_finding empty_top ≡ Some (BadPointer 104)
  pub found_in_directory_stray : early_finding directory_stray ≡ Some (BadPointer 165)

-- the first file is of kind 3
abbrev pub third_kind : List Block
third_kind = with_blocks ((101, with_byte (inode_block inodes) 128 3) ∷ [])

-- number 0 is a file
abbrev pub used_zero : List Block
used_zero = with_blocks (
    (101, inode_block (File 0 0 0 ∷ Directory 2 0 103 ∷ File 5000 1 104 ∷ File 4096 0 105 ∷ []))
    ∷ [])

-- there is a second inode block, and none of its inodes is used
abbrev pub none_used : List Block
none_used = with_blocks ((102, index_block (101 ∷ 107 ∷ [])) ∷ [])

-- number 1 is a file
abbrev pub root_file : List Block
root_file = with_blocks ((101, inode_block (Unused ∷ File 0 0 0 ∷ File 5000 1 104 ∷ File 4096 0 105 ∷ [])) ∷ [])

-- a file of two blocks has the height 0
abbrev pub wrong_height : List Block
wrong_height = with_blocks ((101, inode_block (Unused ∷ Directory 2 0 103 ∷ File 5000 0 104 ∷ File 4096 0 105 ∷ [])) ∷ [])

-- a byte of an inode that has to be 0 is 1
abbrev pub used_gap : List Block
used_gap = with_blocks ((101, with_byte (inode_block inodes) 130 1) ∷ [])

-- the second file has no byte, and a pointer to a block of the area
abbrev pub stray_inside : List Block
stray_inside = with_blocks ((101, inode_block (Unused ∷ Directory 2 0 103 ∷ File 5000 1 104 ∷ File 0 0 107 ∷ [])) ∷ [])

-- number 2 has no byte and a pointer that leads nowhere, which is looked at behind all inodes; number 3 is of kind 3
abbrev pub stray_then_kind : List Block
stray_then_kind = with_blocks (
    (101, with_byte (inode_block (Unused ∷ Directory 2 0 103 ∷ File 0 0 165 ∷ File 4096 0 105 ∷ [])) 192 3)
    ∷ [])

-- the second is a directory of no slot, and has a pointer to a block of the area
abbrev pub directory_inside : List Block
directory_inside = with_blocks ((101, inode_block (Unused ∷ Directory 2 0 103 ∷ File 5000 1 104 ∷ Directory 0 0 107 ∷ [])) ∷ [])

-- number 0 has no byte and a pointer that leads nowhere
abbrev pub zero_stray : List Block
zero_stray = with_blocks ((101, inode_block (File 0 0 165 ∷ Directory 2 0 103 ∷ File 5000 1 104 ∷ File 4096 0 105 ∷ [])) ∷ [])

-- inodes that may not be so
pub record BadInodeRows : Type 0 where
  pub found_in_third_kind : early_finding third_kind ≡ Some (BadInode 2)
  pub found_in_used_zero : early_finding used_zero ≡ Some (BadInode 0)
  pub found_in_none_used : early_finding none_used ≡ Some (BadInode 64)
  pub found_in_root_file : early_finding root_file ≡ Some (BadInode 1)
  pub found_in_wrong_height : early_finding wrong_height ≡ Some (BadInode 2)
  pub found_in_used_gap : early_finding used_gap ≡ Some (BadInode 2)
  pub found_in_stray_inside : early_finding stray_inside ≡ Some (BadInode 3)
  pub found_in_stray_then_kind : early_finding stray_then_kind ≡ Some (BadInode 3)
  pub found_in_directory_inside : early_finding directory_inside ≡ Some (BadInode 3)
  pub found_in_zero_stray : early_finding zero_stray ≡ Some (BadInode 0)
