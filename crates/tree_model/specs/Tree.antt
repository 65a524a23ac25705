-- The tree: a finite map from paths to nodes, as the list of its entries in the order of the paths.
use Rattle.std.specs.Prelude.{ℕ, ◌+◌, ◌-◌, max, Bool, true, false, not, if◌then◌else◌, List, [], ◌∷◌, ◌++◌, length, filter, take, drop, replicate, nat_eq, nat_le, Option, Some, None}
use Rattle.std.specs.List.{list_any, filter_map}
use Rattle.std.specs.Ordering.{eq_by_cmp}
use Rattle.std.specs.FinMap.{find, put}
use Rattle.tree_model.specs.Path.{Path, path_cmp, strip}
use Rattle.tree_model.specs.declared.node.Node.{Node}
use Rattle.tree_model.specs.declared.node.Content.{Content}
use Rattle.tree_model.specs.declared.node.Content.TheVariants.{File, Directory}
use Rattle.tree_model.specs.declared.reply.Entry.{Entry}
use Rattle.tree_model.specs.declared.reply.Kind.{Kind}
use Rattle.tree_model.specs.declared.reply.Kind.TheVariants as kinds

abbrev pub Tree : Type 0
Tree = List (Path × Node)

-- the tree with the root alone
abbrev pub new_tree : Tree
new_tree = ([], record { number = 1; content = Directory 0 }) ∷ []

abbrev pub node_at : Tree → Path → Option Node
node_at tree path = find path_cmp path tree

abbrev pub with_node : Tree → Path → Node → Tree
with_node tree path node = put path_cmp path node tree

abbrev pub without : Tree → Path → Tree
without tree path = filter (λ e. not (eq_by_cmp path_cmp path e.0)) tree

abbrev pub kind_of : Content → Kind
kind_of (File bytes) = kinds.File
kind_of (Directory width) = kinds.Directory

abbrev pub holds_entries : Content → Bool
holds_entries (File bytes) = false
holds_entries (Directory width) = true

abbrev pub is_directory : Node → Bool
is_directory node = holds_entries node.content

-- the entry that a node is in the directory that is so far above it
abbrev pub entry_below : Option Path → Node → Option Entry
entry_below None node = None
entry_below (Some []) node = None
entry_below (Some (name ∷ [])) node = Some (record { kind = kind_of node.content; number = node.number; name = name })
entry_below (Some (name ∷ next ∷ names)) node = None

-- the entries of a directory, by the bytes of their names
abbrev pub entries_of : Tree → Path → List Entry
entries_of tree path = filter_map (λ e. entry_below (strip path e.0) e.1) tree

-- ---- numbers

abbrev pub is_used : Tree → ℕ → Bool
is_used tree number = list_any (λ e. nat_eq e.1.number number) tree

-- the least unused number from this one on, looked for as often as the last list is long
abbrev pub unused_from : Tree → ℕ → Tree → ℕ
unused_from tree number [] = number
unused_from tree number (e ∷ es) = if is_used tree number then unused_from tree (number + 1) es else number

abbrev pub at_most : ℕ → ℕ → Option ℕ
at_most limit number = if nat_le number limit then Some number else None

-- the least unused number from 2 to 65,535
abbrev pub least_unused : Tree → Option ℕ
least_unused tree = at_most 65535 (unused_from tree 2 tree)

-- ---- changes

abbrev pub with_content_width : ℕ → Tree → Path → ℕ → Content → Tree
with_content_width entries tree path number (File bytes) = tree
with_content_width entries tree path number (Directory width) = with_node tree path (record { number = number; content = Directory (max width entries) })

abbrev pub with_width : ℕ → Tree → Path → Option Node → Tree
with_width entries tree path None = tree
with_width entries tree path (Some node) = with_content_width entries tree path node.number node.content

-- the width of the directory becomes at least its number of entries
abbrev pub widened : Tree → Path → Tree
widened tree path = with_width (length (entries_of tree path)) tree path (node_at tree path)

abbrev pub renamed : Path → Option Path → Path → Path
renamed to None path = path
renamed to (Some rest) path = to ++ rest

-- a path that begins with one begins with the other instead
abbrev pub new_path : Path → Path → Path → Path
new_path from to path = renamed to (strip from path) path

-- each node goes to its new path, from the last on
abbrev pub moved_onto : Path → Path → Tree → Tree → Tree
moved_onto from to [] rest = rest
moved_onto from to (e ∷ es) rest = with_node (moved_onto from to es rest) (new_path from to e.0) e.1

-- every path that begins with one begins with the other instead
abbrev pub moved : Path → Path → Tree → Tree
moved from to tree = moved_onto from to tree []

-- the first bytes, with zeros added up to the size
abbrev pub resized : List ℕ → ℕ → List ℕ
resized bytes size = take size bytes ++ replicate (size - length bytes) 0

abbrev pub written : List ℕ → ℕ → List ℕ → List ℕ
written bytes offset more = resized bytes offset ++ more ++ drop (offset + length more) bytes
