-- A table of nodes that is made of inodes and directories in memory.
use Rattle.std.specs.Prelude.{◌≡◌, ℕ, true, List, map, Option, Some, None}
use Rattle.std.specs.Option.{option_map}
use Rattle.block_format.specs.declared.inode.Inode.{Inode}
use Rattle.block_format.specs.declared.inode.Inode.TheVariants as inodes
use Rattle.held_list.specs.Held.{slots_at}
use Rattle.held_list.specs.declared.held.Held.{Held as Directories}
use Rattle.place_words.specs.Rising.{Rising}
use Rattle.tree_model.specs.Tree.{Tree}
use Rattle.image_model.specs.Holds.{HoldsTree}
use Rattle.image_model.specs.Nodes.{tree_finding}
use Rattle.image_model.specs.Seen.{Seen}
use Rattle.image_model.specs.Slots.{inode_of}
use Rattle.image_model.specs.Walk.{is_directory}
use Rattle.image_walk.specs.Left.{AreWithin}
use Rattle.name_check.specs.Seeing.{HoldsDirectories, HaveSlots, directory_numbers}
use Rattle.node_table.specs.Held.{Nodes, HoldsNodes, held}
use Rattle.node_table.specs.declared.held.HeldNode.{HeldNode}
use Rattle.node_table.specs.declared.held.HeldNode.TheVariants.{File, Directory}

-- Nodes as a walk leaves them, and the directories among them: the numbers rise from 1 to 65,535 at most, number 1 is a directory, and each directory is held
-- under its number with as many slots as its inode says.
pub record AreNodes (nodes : List (ℕ × Inode)) (directories : List Directories) : Type 0 where
  pub rising : Rising 1 (map (λ node. node.0) nodes)
  pub each : AreWithin nodes
  pub root : is_directory (inode_of nodes 1) ≡ true
  pub numbers : map (λ h. h.number) directories ≡ directory_numbers nodes
  pub widths : HaveSlots nodes directories

-- the node of an inode: a file with its size, or the directory of this number
abbrev pub node_held : List Directories → ℕ → Inode → Option HeldNode
node_held directories n inodes.Unused = None
node_held directories n (inodes.File size height ptr) = Some (File size)
node_held directories n (inodes.Directory width height ptr) = option_map (λ slots. Directory slots) (slots_at directories n)

-- The table has under each number the node of its inode.
abbrev pub IsTableOf : List (ℕ × Inode) → List Directories → Nodes → Type 0
IsTableOf nodes directories table = (n : ℕ) → held table n ≡ node_held directories n (inode_of nodes n)

-- The table holds each tree that these nodes and directories are seen to make.
abbrev pub HoldsEachTree : List (ℕ × Inode) → List Directories → Nodes → Type 0
HoldsEachTree nodes directories table = (s : Seen) (tree : Tree) → s.nodes ≡ nodes → HoldsDirectories s directories → HoldsTree s tree → HoldsNodes table tree

-- Whoever sees these nodes and directories finds no number that is named or reached wrongly.
abbrev pub FindsNoneLost : List (ℕ × Inode) → List Directories → Type 0
FindsNoneLost nodes directories = (s : Seen) → s.nodes ≡ nodes → HoldsDirectories s directories → tree_finding s ≡ None
