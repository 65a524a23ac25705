-- How often a check reads the disk.
use Rattle.std.specs.Prelude.{ℕ, ◌+◌, List, length}
use Rattle.vol_numbers.specs.Layout.{count_blocks}
use Rattle.vol_numbers.specs.declared.block.Block.{Block}
use Rattle.image_model.specs.Seen.{Seen, seen}
use Rattle.image_model.specs.Stands.{layout_in, used_in}
use Rattle.image_walk.specs.Reads.{metadata_count, file_count}

-- behind the root and before the counts: one for each block of metadata that the walk reads, one for each file, and one for each block of a directory
abbrev pub reads_behind : Seen → ℕ
reads_behind s = metadata_count s.met + file_count s.nodes + length s.pages

-- of an image that stands for something, at most: two for the root, these, one for each count block, and one for each used block of the log
abbrev pub reads_of : List Block → ℕ
reads_of image = 2 + reads_behind (seen image) + count_blocks (layout_in image) + used_in image
