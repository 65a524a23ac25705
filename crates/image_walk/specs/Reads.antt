-- How many blocks are read.
use Rattle.std.specs.Prelude.{ℕ, ◌==◌, Bool, true, false, not, List, count_by}
use Rattle.block_format.specs.declared.inode.Inode.{Inode}
use Rattle.block_format.specs.declared.inode.Inode.TheVariants.{Unused, File, Directory}
use Rattle.image_model.specs.Met.{Met, index}

-- it leads to a block that a walk reads: the inode index, an inode block, or an index block
abbrev pub is_index : Met → Bool
is_index (index b) = true
is_index other = false

-- how many such blocks are met: the metadata but for the blocks of directories, which later phases read
abbrev pub metadata_count : List Met → ℕ
metadata_count met = count_by is_index met

-- whether it is the inode of a file
abbrev pub is_file : Inode → Bool
is_file Unused = false
is_file (File size height ptr) = true
is_file (Directory width height ptr) = false

-- how many of the nodes are files
abbrev pub file_count : List (ℕ × Inode) → ℕ
file_count nodes = count_by (λ node. is_file node.1) nodes

-- ---- of private functions

-- how many of these pointers lead to a block
abbrev pub pointer_count : List ℕ → ℕ
pointer_count ptrs = count_by (λ p. not (p == 0)) ptrs
