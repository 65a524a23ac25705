-- What a tree is besides a list: each path's front is a directory, each number is of one path, and widths and sizes have their limits.
use Rattle.std.specs.Prelude.{◌≡◌, ℕ, ◌≤◌, Bool, true, List, [], ◌∷◌, ◌++◌, length, Option, Some, None}
use Rattle.tree_model.specs.declared.node.Node.{Node}
use Rattle.tree_model.specs.declared.node.Content.TheVariants.{File, Directory}
use Rattle.tree_model.specs.Path.{Path, strip}
use Rattle.tree_model.specs.Tree.{Tree, node_at, is_directory, entries_of}
use Rattle.tree_model.specs.Order.{IsOrdered}

-- the number of a node, and whether it is a directory
abbrev pub shape_of : Option Node → Option (ℕ × Bool)
shape_of None = None
shape_of (Some node) = Some (node.number, is_directory node)

abbrev pub shape_at : Tree → Path → Option (ℕ × Bool)
shape_at tree path = shape_of (node_at tree path)

-- what nodes there are, by number and kind
pub record IsShape (shape : Path → Option (ℕ × Bool)) : Type 0 where
  pub root : shape [] ≡ Some (1, true)
  pub fronts : (front : Path) (name : List ℕ) (rest : Path) (node : ℕ × Bool) → shape (front ++ name ∷ rest) ≡ Some node → (number : ℕ) × (shape front ≡ Some (number, true))
  pub one_path : (p q : Path) (number : ℕ) (a b : Bool) → shape p ≡ Some (number, a) → shape q ≡ Some (number, b) → p ≡ q
  pub numbered : (path : Path) (node : ℕ × Bool) → shape path ≡ Some node → (1 ≤ node.0) × (node.0 ≤ 65535)

-- In order, the root is directory 1, what is in front of a path is a directory, and each number from 1 to 65,535 is of at most one path.
-- A directory has at most as many entries as its width, which is at most 65,534, and a file has at most 4,294,967,296 bytes.
pub record IsTree (tree : Tree) : Type 0 where
  pub ordered : IsOrdered tree
  pub shape : IsShape (shape_at tree)
  pub widths : (path : Path) (number width : ℕ) → node_at tree path ≡ Some (record { number = number; content = Directory width }) → (length (entries_of tree path) ≤ width) × (width ≤ 65534)
  pub sizes : (path : Path) (number : ℕ) (bytes : List ℕ) → node_at tree path ≡ Some (record { number = number; content = File bytes }) → length bytes ≤ 4294967296

-- where the node at a path was before a rename: nowhere, where the path was left behind
abbrev pub came_from : {A : Type 0} → (Path → Option A) → Path → Option Path → Option Path → Path → Option A
came_from at from (Some rest) other path = at (from ++ rest)
came_from at from None (Some rest) path = None
came_from at from None None path = at path

-- what stands at each path after a rename, by what stood at each path before it
abbrev pub after_rename : {A : Type 0} → (Path → Option A) → Path → Path → Path → Option A
after_rename at from to path = came_from at from (strip to path) (strip from path) path
