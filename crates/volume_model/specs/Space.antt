-- The blocks that a tree and the blocks of its files take, as a formula.
use Rattle.std.specs.Prelude.{ℕ, ◌+◌, ◌-◌, ◌/◌, length, map, sum_by}
use Rattle.vol_numbers.specs.Layout.{Layout, area_size}
use Rattle.tree_model.specs.declared.node.Content.{Content}
use Rattle.tree_model.specs.declared.node.Content.TheVariants.{File, Directory}
use Rattle.tree_model.specs.Tree.{Tree}
use Rattle.place_words.specs.Different.{different, span, up}
use Rattle.place_words.specs.Index.{index_blocks}
use Rattle.volume_model.specs.Places.{Places, places_of, blocks_of}

-- of a file its index blocks; of a directory, in whose blocks 16 slots fit, these blocks and their index
abbrev pub content_blocks : Places → ℕ → Content → ℕ
content_blocks placed number (File bytes) = index_blocks (up (length bytes) 4096) (places_of placed number)
content_blocks placed number (Directory width) = up width 16 + index_blocks (up width 16) (span 0 (up width 16))

-- the inode blocks: each has the inodes of 64 numbers
abbrev pub inode_blocks : Tree → ℕ
inode_blocks tree = different (map (λ e. e.1.number / 64) tree)

-- The inode index, the inode blocks, the index blocks, and the blocks of directories.
abbrev pub metadata_blocks : Tree → Places → ℕ
metadata_blocks tree placed = 1 + inode_blocks tree + sum_by (λ e. content_blocks placed e.1.number e.1.content) tree

-- what is left of the area without the blocks of files, each once, and the metadata
abbrev pub free_blocks : Layout → Tree → Places → ℕ
free_blocks g tree placed = area_size g - different (blocks_of placed) - metadata_blocks tree placed
