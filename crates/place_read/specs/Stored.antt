-- A place of an inode, in the blocks of an image.
use Rattle.std.specs.Prelude.{ℕ, ◌==◌, nat_lt, if◌then◌else◌, List, [], Option, Some, None}
use Rattle.block_format.specs.Inode.{blocks_of}
use Rattle.block_format.specs.declared.inode.Inode.{Inode}
use Rattle.block_format.specs.declared.inode.Inode.TheVariants.{Unused, File, Directory}
use Rattle.block_tree.specs.Root.{block_at, tree_indexes}
use Rattle.block_tree.specs.Tree.{Blocks}
use Rattle.block_tree.specs.declared.root.TreeRoot.{TreeRoot}
use Rattle.state_laws.specs.Files.{zero_block}

-- the tree of blocks in which a file has a place, none from its number of blocks on
abbrev pub tree_with : Inode → ℕ → Option TreeRoot
tree_with Unused place = None
tree_with (File size height ptr) place = if nat_lt place (blocks_of size) then Some (record { height = height; ptr = ptr }) else None
tree_with (Directory width height ptr) place = None

-- the block that a tree has at a place, 0 where there is no tree
abbrev pub block_in : Blocks → ℕ → Option TreeRoot → ℕ
block_in read place None = 0
block_in read place (Some root) = block_at read root place

-- the block of a place of an inode, 0 where there is none
abbrev pub block_of_place : Blocks → Inode → ℕ → ℕ
block_of_place read inode place = block_in read place (tree_with inode place)

-- the index blocks of a tree, none where there is no tree
abbrev pub indexes_in : Blocks → Option TreeRoot → List ℕ
indexes_in read None = []
indexes_in read (Some root) = tree_indexes read root

-- the index blocks of the tree in which an inode has a place
abbrev pub indexes_of_place : Blocks → Inode → ℕ → List ℕ
indexes_of_place read inode place = indexes_in read (tree_with inode place)

-- the bytes of a block, zeros where there is none
abbrev pub bytes_at : Blocks → ℕ → List ℕ
bytes_at read b = if b == 0 then zero_block else read b
