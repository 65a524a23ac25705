-- What is kept of what a walk meets, for the phases behind it: the blocks of directories, and the last blocks of files.
use Rattle.std.specs.Prelude.{ℕ, ◌+◌, ◌==◌, if◌then◌else◌, List, [], ◌∷◌, ◌++◌}
use Rattle.std.specs.List.{flat_map}
use Rattle.block_format.specs.declared.inode.Inode.{Inode}
use Rattle.block_tree.specs.Tree.{Blocks}
use Rattle.image_model.specs.Met.{Met, page, content}
use Rattle.image_model.specs.Nodes.{blocks_in_node}
use Rattle.image_model.specs.Walk.{node_met}
use Rattle.image_walk.specs.declared.node_block.NodeBlock.{NodeBlock}

-- the directory's block that is met, if it is one
abbrev pub page_of : Met → List NodeBlock
page_of (page n place b) = record { number = n; place = place; block = b } ∷ []
page_of other = []

-- the directories' blocks that are met, in order
abbrev pub pages_of : List Met → List NodeBlock
pages_of [] = []
pages_of (m ∷ ms) = page_of m ++ pages_of ms

-- the file's block that is met, if it is at the last of so many places
abbrev pub last_of : ℕ → Met → List NodeBlock
last_of blocks (content n place b) = if place + 1 == blocks then record { number = n; place = place; block = b } ∷ [] else []
last_of blocks other = []

-- of all that is met
abbrev pub lasts_of : ℕ → List Met → List NodeBlock
lasts_of blocks [] = []
lasts_of blocks (m ∷ ms) = last_of blocks m ++ lasts_of blocks ms

-- the block of a node's last place, if it is a file and has no hole there
abbrev pub node_lasts : Blocks → ℕ × Inode → List NodeBlock
node_lasts read node = lasts_of (blocks_in_node node.1) (node_met read node)

-- those of all files, by their numbers
abbrev pub all_lasts : Blocks → List (ℕ × Inode) → List NodeBlock
all_lasts read nodes = flat_map (node_lasts read) nodes
