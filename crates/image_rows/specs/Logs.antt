-- What is found in the log.
use Rattle.std.specs.Prelude.{List, [], ◌∷◌, ◌++◌, replicate}
use Rattle.vol_numbers.specs.declared.block.Block.{Block}
use Rattle.block_format.specs.Root.{root_bytes}
use Rattle.tree_model.specs.declared.command.Command.{Command}
use Rattle.tree_model.specs.declared.command.Command.TheVariants.{Write}
use Rattle.op_log.specs.Record.{record_block}
use Rattle.image_model.specs.Finds.{Finds}
use Rattle.image_model.specs.declared.finding.Finding.TheVariants.{BadLog}
use Rattle.image_rows.specs.Images.{filled, count_block, ones, inode_block, directory_block, index_block, root, with_blocks}
use Rattle.block_format.specs.declared.inode.Inode.TheVariants.{Unused, File, Directory}
use Rattle.block_format.specs.declared.slot.Slot.TheVariants as slots
use Rattle.place_words.specs.Different.{span}

-- the root counts one record, and that is of kind 7; else it would be `create /c`
abbrev pub seventh_kind : List Block
seventh_kind = with_blocks (
    (1, root_bytes (record root { records = 1; log_used = 1 }))
    ∷ (5, filled (7 ∷ 0 ∷ 0 ∷ 0 ∷ 2 ∷ replicate 19 0 ++ (47 ∷ 99 ∷ [])))
    ∷ [])

-- the record of `remove /c`, where there is no such file
abbrev pub wanting_file : List Block
wanting_file = with_blocks (
    (1, root_bytes (record root { records = 1; log_used = 1 }))
    ∷ (5, filled (5 ∷ 0 ∷ 0 ∷ 0 ∷ 2 ∷ replicate 19 0 ++ (47 ∷ 99 ∷ [])))
    ∷ [])

-- the data of this write fill the first of two blocks
abbrev pub long_write : Command
long_write = Write ((99 ∷ []) ∷ []) 0 (replicate 4096 65)

-- its record stands, and one block is used
abbrev pub long_record : List Block
long_record = with_blocks (
    (1, root_bytes (record root { records = 1; log_used = 1 }))
    ∷ (5, (record_block long_write 0).bytes)
    ∷ (6, (record_block long_write 1).bytes)
    ∷ [])

-- A file of 44 blocks, so that 16 are free, and the record of `create /c`, whose charge and reserve are 28.
abbrev pub full_area : List Block
full_area = with_blocks (
    (1, root_bytes (record root { records = 1; log_used = 1 }))
    ∷ (3, count_block (ones 101 48))
    ∷ (5, filled (2 ∷ 0 ∷ 0 ∷ 0 ∷ 2 ∷ replicate 19 0 ++ (47 ∷ 99 ∷ [])))
    ∷ (101, inode_block (Unused ∷ Directory 1 0 103 ∷ File 180224 1 104 ∷ []))
    ∷ (103, directory_block (slots.Entry 2 (97 ∷ []) ∷ []))
    ∷ (104, index_block (span 105 44))
    ∷ [])

-- the root counts no record, and says that one block is used
abbrev pub spare_block : List Block
spare_block = with_blocks ((1, root_bytes (record root { log_used = 1 })) ∷ [])

-- logs with a bad record, or with too few
pub record BadLogRows : Type 0 where
  pub found_in_seventh_kind : Finds seventh_kind (BadLog 0)
  pub found_in_wanting_file : Finds wanting_file (BadLog 0)
  pub found_in_long_record : Finds long_record (BadLog 0)
  pub found_in_full_area : Finds full_area (BadLog 0)
  pub found_in_spare_block : Finds spare_block (BadLog 0)
