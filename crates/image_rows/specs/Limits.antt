-- Numbers past their limits, and bytes that have to be 0.
use Rattle.std.specs.Prelude.{◌≡◌, List, [], ◌∷◌, Some}
use Rattle.vol_numbers.specs.declared.block.Block.{Block}
use Rattle.block_format.specs.declared.inode.Inode.TheVariants.{Unused, File, Directory}
use Rattle.image_model.specs.Finds.{early_finding}
use Rattle.image_model.specs.declared.finding.Finding.TheVariants.{BadInode, BadDirectory}
use Rattle.image_rows.specs.Images.{inode_block, directory_block, inodes, entries, with_blocks, with_byte}

-- the first file has a byte more than the greatest
abbrev pub big_file : List Block
big_file = with_blocks ((101, inode_block (Unused ∷ Directory 2 0 103 ∷ File 4294967297 2 104 ∷ File 4096 0 105 ∷ [])) ∷ [])

-- number 3 is a directory with a slot more than the widest
abbrev pub wide_directory : List Block
wide_directory = with_blocks ((101, inode_block (Unused ∷ Directory 2 0 103 ∷ File 5000 1 104 ∷ Directory 65535 2 0 ∷ [])) ∷ [])

-- the root directory has 513 bytes
abbrev pub odd_size : List Block
odd_size = with_blocks ((101, with_byte (inode_block inodes) 72 1) ∷ [])

-- byte 16 of an inode is not 0
abbrev pub behind_size : List Block
behind_size = with_blocks ((101, with_byte (inode_block inodes) 144 1) ∷ [])

-- the first entry names number 65,538
abbrev pub number_past : List Block
number_past = with_blocks ((103, with_byte (directory_block entries) 2 1) ∷ [])

-- the first entry has a name of no byte, and of 251
abbrev pub no_length : List Block
no_length = with_blocks ((103, with_byte (directory_block entries) 4 0) ∷ [])

abbrev pub long_length : List Block
long_length = with_blocks ((103, with_byte (directory_block entries) 4 251) ∷ [])

-- inodes and directories past their limits
pub record LimitRows : Type 0 where
  pub found_in_big_file : early_finding big_file ≡ Some (BadInode 2)
  pub found_in_wide_directory : early_finding wide_directory ≡ Some (BadInode 3)
  pub found_in_odd_size : early_finding odd_size ≡ Some (BadInode 1)
  pub found_in_behind_size : early_finding behind_size ≡ Some (BadInode 2)
  pub found_in_number_past : early_finding number_past ≡ Some (BadDirectory 1)
  pub found_in_no_length : early_finding no_length ≡ Some (BadDirectory 1)
  pub found_in_long_length : early_finding long_length ≡ Some (BadDirectory 1)
