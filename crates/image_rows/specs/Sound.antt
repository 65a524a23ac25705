-- Images in which nothing is found.
use Rattle.std.specs.Prelude.{◌≡◌, List, [], ◌∷◌, None, replicate}
use Rattle.vol_numbers.specs.declared.block.Block.{Block}
use Rattle.block_format.specs.Root.{root_bytes}
use Rattle.block_format.specs.declared.inode.Inode.TheVariants.{Unused, File, Directory}
use Rattle.block_format.specs.declared.slot.Slot.TheVariants as slots
use Rattle.place_words.specs.Different.{span}
use Rattle.image_model.specs.Finds.{early_finding}
use Rattle.image_rows.specs.Images.{filled, index_block, inode_block, directory_block, data_block, count_block, ones, image_of, root, counts, with_blocks, small}

-- as a format leaves it
abbrev pub blank : List Block
blank = image_of (
    (1, root_bytes (record root { point = 0 }))
    ∷ (3, count_block ((101, 1) ∷ (102, 1) ∷ []))
    ∷ (101, inode_block (Unused ∷ Directory 0 0 0 ∷ []))
    ∷ (102, index_block (101 ∷ []))
    ∷ [])

-- Slot 1 is current, by an odd first byte of the selector. The root names the other home of the counts; the first one holds anything. The last
-- place of the first file is a hole, and nothing is said of its tail. The second file has 4,294,967,296 bytes and no block: it needs no index
-- block.
abbrev pub unlike : List Block
unlike = with_blocks (
    (0, filled (3 ∷ 255 ∷ []))
    ∷ (1, replicate 4096 0)
    ∷ (2, root_bytes (record root { homes = 1 ∷ replicate 127 0 }))
    ∷ (3, data_block 7 4096)
    ∷ (4, count_block ((105, 1) ∷ (106, 0) ∷ counts))
    ∷ (101, inode_block (Unused ∷ Directory 2 0 103 ∷ File 5000 1 104 ∷ File 4294967296 2 0 ∷ []))
    ∷ (104, index_block (105 ∷ []))
    ∷ [])

-- the first file has 44 blocks, and 16 are free
abbrev pub just_enough : List Block
just_enough = with_blocks (
    (3, count_block (ones 101 48))
    ∷ (101, inode_block (Unused ∷ Directory 1 0 103 ∷ File 180224 1 104 ∷ []))
    ∷ (103, directory_block (slots.Entry 2 (97 ∷ []) ∷ []))
    ∷ (104, index_block (span 105 44))
    ∷ [])

-- nothing is found
pub record SoundImages : Type 0 where
  pub nothing_in_small : early_finding small ≡ None
  pub nothing_in_blank : early_finding blank ≡ None
  pub nothing_in_unlike : early_finding unlike ≡ None
  pub nothing_in_just_enough : early_finding just_enough ≡ None
