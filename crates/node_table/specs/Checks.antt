-- Why a table refuses a command, and else the numbers that its change needs, in words of private functions alone.
use Rattle.std.specs.Prelude.{ℕ, Bool, not, ◌&&◌, nat_eq, nat_lt, is_some, Result, Ok}
use Rattle.std.specs.Result.{result_ok}
use Rattle.tree_model.specs.Path.{Path, is_root, parent_of, strip}
use Rattle.tree_model.specs.Step.{◌>>=◌, refuse_if}
use Rattle.tree_model.specs.declared.refusal.Refusal.{Refusal}
use Rattle.tree_model.specs.declared.refusal.Refusal.TheVariants.{NotADirectory, IsADirectory, Exists, RootFixed, Inside, NotEmpty, TooBig}
use Rattle.node_table.specs.declared.held.FoundNode.{FoundNode}
use Rattle.node_table.specs.declared.checks.RenamePlan.{RenamePlan}
use Rattle.node_table.specs.Counts.{count}
use Rattle.node_table.specs.Held.{Nodes, held, slots_of, is_directory}
use Rattle.node_table.specs.Walks.{look}

-- whether a path leads to a node
abbrev pub is_there : Nodes → Path → Bool
is_there nodes path = is_some (result_ok (look nodes path))

-- the directory that a new path would come into
abbrev pub new_place : Nodes → Path → Result ℕ Refusal
new_place nodes path = do
  parent ← look nodes (parent_of path)
  _ ← refuse_if (not (is_directory parent.info)) NotADirectory
  _ ← refuse_if (is_there nodes path) Exists
  Ok parent.number

-- the directory that a new node at a path comes into
abbrev pub may_make : Nodes → Path → Result ℕ Refusal
may_make nodes path = do
  _ ← refuse_if (is_root path) Exists
  new_place nodes path

-- the file at a path
abbrev pub file_at : Nodes → Path → Result ℕ Refusal
file_at nodes path = do
  found ← look nodes path
  _ ← refuse_if (is_directory found.info) IsADirectory
  Ok found.number

-- the file that may get so many bytes
abbrev pub may_size : Nodes → Path → ℕ → Result ℕ Refusal
may_size nodes path size = do
  number ← file_at nodes path
  _ ← refuse_if (nat_lt 4294967296 size) TooBig
  Ok number

-- whether a node is a directory with entries
abbrev pub is_full : Nodes → FoundNode → Bool
is_full nodes found = is_directory found.info && not (nat_eq (count (slots_of (held nodes found.number))) 0)

-- the node that may be taken away
abbrev pub may_remove : Nodes → Path → Result ℕ Refusal
may_remove nodes path = do
  found ← look nodes path
  _ ← refuse_if (is_root path) RootFixed
  _ ← refuse_if (is_full nodes found) NotEmpty
  Ok found.number

-- the number of the node that is renamed, and of the directory that it comes into
abbrev pub may_rename : Nodes → Path → Path → Result RenamePlan Refusal
may_rename nodes from to = do
  found ← look nodes from
  _ ← refuse_if (is_root to) Exists
  into ← new_place nodes to
  _ ← refuse_if (is_root from) RootFixed
  _ ← refuse_if (is_some (strip from to)) Inside
  Ok (record { number = found.number; to = into })

-- the directory that may be listed
abbrev pub may_list : Nodes → Path → Result ℕ Refusal
may_list nodes path = do
  found ← look nodes path
  _ ← refuse_if (not (is_directory found.info)) NotADirectory
  Ok found.number
