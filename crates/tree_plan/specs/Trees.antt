-- The tree of a node, from its inode.
use Rattle.std.specs.Prelude.{◌≡◌, ◌<◌, ◌≤◌, ℕ, Bool, true, IsTrue, List}
use Rattle.vol_numbers.specs.declared.block.Block.{Block}
use Rattle.vol_numbers.specs.declared.runs.Page.{Page}
use Rattle.block_format.specs.Inode.{pointer_of}
use Rattle.block_format.specs.declared.inode.Inode.{Inode}
use Rattle.block_tree.specs.Notes.{Stand}
use Rattle.block_tree.specs.Root.{Stays, tree_indexes}
use Rattle.block_tree.specs.Tree.{blocks_in, indexes_below, IsFull}
use Rattle.block_tree.specs.declared.root.TreeRoot.{TreeRoot}
use Rattle.image_model.specs.Planned.{height_in}
use Rattle.place_words.specs.Different.{is_among}
use Rattle.point_model.specs.NodePlan.{block_of_place}

-- where the tree below an inode begins
abbrev pub root_of : Inode → TreeRoot
root_of inode = record { height = height_in inode; ptr = pointer_of inode }

-- each index block of the tree below an inode has a pointer to a block
abbrev pub IsFullTree : List Block → Inode → Type 0
IsFullTree image inode = IsFull (blocks_in image) (indexes_below (blocks_in image) (height_in inode) (pointer_of inode))

-- no place from a number of blocks on outlives a cut
abbrev pub EndsAt : List Block → Inode → ℕ → ℕ → Type 0
EndsAt old was cut blocks = (place : ℕ) → place < cut → blocks ≤ place → place < 1048576 → block_of_place old was place ≡ 0

-- whether a tree has a top index
abbrev pub HasTopIndex : TreeRoot → Type 0
HasTopIndex root = (root.height ≡ 2) × (0 < root.ptr)

-- the block of the top index of the tree below an inode
abbrev pub IsTop : Inode → ℕ → Type 0
IsTop inode b = (height_in inode ≡ 2) × (b ≡ pointer_of inode)

-- where the disk tells, a block is one of the index blocks of the tree below an inode
abbrev pub IsOldIndex : Bool → List Block → Inode → ℕ → Type 0
IsOldIndex tells old was b = IsTrue tells → is_among (tree_indexes (blocks_in old) (root_of was)) b ≡ true

-- The pages stand in the new image, and the index blocks of the old tree are there as they were.
pub record Carries (old new : List Block) (was : Inode) (pages : List Page) : Type 0 where
  pub stand : Stand pages (blocks_in new)
  pub stays : Stays (blocks_in old) (root_of was) (blocks_in new)
