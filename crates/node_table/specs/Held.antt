-- A tree that is held node by node, without the bytes of files.
use Rattle.std.specs.Prelude.{◌≡◌, ℕ, Bool, true, false, List, [], ◌∷◌, ◌++◌, length, Option, Some, None, is_some, slice_index_or}
use Rattle.std.specs.Option.{option_map}
use Rattle.block_format.specs.declared.slot.Slot.{Slot}
use Rattle.dir_slots.specs.Slots.{number_in, IsDirectory}
use Rattle.tree_model.specs.Path.{Path}
use Rattle.tree_model.specs.Tree.{Tree, node_at}
use Rattle.tree_model.specs.declared.node.Node.{Node}
use Rattle.tree_model.specs.declared.node.Content.{Content}
use Rattle.tree_model.specs.declared.node.Content.TheVariants as contents
use Rattle.node_table.specs.declared.held.HeldNode.{HeldNode}
use Rattle.node_table.specs.declared.held.HeldNode.TheVariants.{File, Directory}
use Rattle.node_table.specs.declared.held.NodeInfo.{NodeInfo}
use Rattle.node_table.specs.declared.held.NodeInfo.TheVariants as infos

-- nodes by their numbers: a file's size, or a directory's slots
abbrev pub Nodes : Type 0
Nodes = List (Option HeldNode)

-- the node of a number
abbrev pub held : Nodes → ℕ → Option HeldNode
held nodes number = slice_index_or nodes number None

-- what is known of a node that is held
abbrev pub info : HeldNode → NodeInfo
info (File size) = infos.File size
info (Directory slots) = infos.Directory (length slots)

-- what is known of a node of the tree
abbrev pub info_of : Content → NodeInfo
info_of (contents.File bytes) = infos.File (length bytes)
info_of (contents.Directory width) = infos.Directory width

-- whether that is a directory
abbrev pub is_directory : NodeInfo → Bool
is_directory (infos.File size) = false
is_directory (infos.Directory width) = true

-- the slots of a directory, and none of a file
abbrev pub slots_of : Option HeldNode → List Slot
slots_of None = []
slots_of (Some (File size)) = []
slots_of (Some (Directory slots)) = slots

-- each directory that is held is one: its slots fit, and no name stands twice
abbrev pub AreDirectories : Nodes → Type 0
AreDirectories nodes = (number : ℕ) (slots : List Slot) → held nodes number ≡ Some (Directory slots) → IsDirectory slots

-- Each node of the tree is held under its number, a directory's slots have the numbers of the nodes one name further, and no other number is used.
pub record HoldsNodes (nodes : Nodes) (tree : Tree) : Type 0 where
  pub each : (path : Path) (node : Node) → node_at tree path ≡ Some node → option_map info (held nodes node.number) ≡ Some (info_of node.content)
  pub slots : (path : Path) (node : Node) (name : List ℕ) → node_at tree path ≡ Some node
      → number_in (slots_of (held nodes node.number)) name ≡ option_map (λ (n : Node). n.number) (node_at tree (path ++ name ∷ []))
  pub others : (number : ℕ) → is_some (held nodes number) ≡ true → (path : Path) × (node : Node) × (node_at tree path ≡ Some node) × (node.number ≡ number)
