-- Blocks of files and directories.
use Rattle.std.specs.Prelude.{ℕ, ◌<◌, ◌≤◌, List, map, length, slice_index_or}
use Rattle.block_tree.specs.Tree.{Blocks}
use Rattle.image_model.specs.Seen.{SeenBlock}
use Rattle.image_walk.specs.declared.node_block.NodeBlock.{NodeBlock}

-- a block with its bytes
abbrev pub block_held : Blocks → NodeBlock → SeenBlock
block_held read b = record { number = b.number; place = b.place; block = b.block; bytes = read b.block }

abbrev pub blocks_held : Blocks → List NodeBlock → List SeenBlock
blocks_held read blocks = map (block_held read) blocks

-- the node of the block at a place of a list
abbrev pub number_at : List NodeBlock → ℕ → ℕ
number_at blocks k = (slice_index_or blocks k (record { number = 0; place = 0; block = 0 })).number

-- the blocks come in the order of their nodes
abbrev pub NeverFall : List NodeBlock → Type 0
NeverFall blocks = (j k : ℕ) → j ≤ k → k < length blocks → number_at blocks j ≤ number_at blocks k

-- each is a block of a disk of this size
abbrev pub AreOnDisk : ℕ → List NodeBlock → Type 0
AreOnDisk size blocks = (k : ℕ) → k < length blocks → (slice_index_or blocks k (record { number = 0; place = 0; block = 0 })).block < size
