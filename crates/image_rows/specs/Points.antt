-- Images that stand for something: before and after a record, and before and after a point.
use Rattle.std.specs.Prelude.{List, [], ◌∷◌, ◌++◌, replicate}
use Rattle.vol_numbers.specs.declared.block.Block.{Block}
use Rattle.block_format.specs.Root.{root_bytes}
use Rattle.block_format.specs.declared.inode.Inode.TheVariants.{Unused, File, Directory}
use Rattle.tree_model.specs.declared.command.Command.{Command}
use Rattle.tree_model.specs.declared.command.Command.TheVariants.{Remove}
use Rattle.volume_model.specs.Machine.{Stored}
use Rattle.image_model.specs.Next.{HasNext, and_command}
use Rattle.image_model.specs.Point.{HasPoint}
use Rattle.image_model.specs.Stands.{Stands}
use Rattle.image_rows.specs.Images.{filled, data_block, count_block, inode_block, index_block, root, small, with_blocks}

-- remove /b
abbrev pub removal : Command
removal = Remove ((98 ∷ []) ∷ [])

-- the small volume with the record of that
abbrev pub one_record : List Block
one_record = with_blocks ((1, root_bytes (record root { records = 1; log_used = 1 })) ∷ (5, filled (5 ∷ 0 ∷ 0 ∷ 0 ∷ 2 ∷ replicate 19 0 ++ (47 ∷ 98 ∷ []))) ∷ [])

-- The small volume after a point that stores the block of the second file anew. The other slot is current, and the root names the other home of the
-- counts. The file's block, the inode block and the inode index lie in blocks that were free.
abbrev pub rewritten : List Block
rewritten = with_blocks (
    (0, filled (1 ∷ []))
    ∷ (2, root_bytes (record root { point = 3; inode_index = 109; homes = 1 ∷ replicate 127 0 }))
    ∷ (4, count_block ((103, 1) ∷ (104, 1) ∷ (105, 1) ∷ (106, 1) ∷ (107, 1) ∷ (108, 1) ∷ (109, 1) ∷ []))
    ∷ (107, data_block 67 4096)
    ∷ (108, inode_block (Unused ∷ Directory 2 0 103 ∷ File 5000 1 104 ∷ File 4096 0 107 ∷ []))
    ∷ (109, index_block (108 ∷ []))
    ∷ [])

-- The small volume stands for something. With the record behind its log it stands for the same with that record.
abbrev pub RecordIsMet : Type 0
RecordIsMet = (s : Stored) × Stands small s × HasNext small one_record removal × Stands one_record (and_command s removal)

-- The small volume stands for something. After the point the image has all that a point owes, and stands for what the point made.
abbrev pub PointIsMet : Type 0
PointIsMet = (before : Stored) × (after : Stored) × Stands small before × HasPoint small rewritten after × Stands rewritten after
