-- What a command does to the tree, and what it is answered: the refusals of each in their order.
use Rattle.std.specs.Prelude.{ℕ, ◌+◌, Bool, true, false, not, ◌&&◌, List, [], ◌∷◌, ◌++◌, length, take, drop, Option, Some, None, Result, Ok, Err, is_some, nat_lt, nat_eq}
use Rattle.std.specs.Result.{result_err}
use Rattle.tree_model.specs.declared.node.Node.{Node}
use Rattle.tree_model.specs.declared.node.Content.{Content}
use Rattle.tree_model.specs.declared.node.Content.TheVariants.{File, Directory}
use Rattle.tree_model.specs.declared.command.Command.{Command}
use Rattle.tree_model.specs.declared.command.Command.TheVariants.{Mkdir, Create, Write, Truncate, Remove, Rename, Read, List as ListOf, Stat, Layout, Space, Checkpoint, End}
use Rattle.tree_model.specs.declared.refusal.Refusal.{Refusal}
use Rattle.tree_model.specs.declared.refusal.Refusal.TheVariants.{NotFound, NotADirectory, IsADirectory, Exists, RootFixed, Inside, NotEmpty, TooBig, NoNumbers}
use Rattle.tree_model.specs.declared.reply.Reply.{Reply}
use Rattle.tree_model.specs.declared.reply.Reply.TheVariants.{Done, Data, Entries, Stat as StatOf, Refused}
use Rattle.tree_model.specs.Path.{Path, is_root, parent_of, strip}
use Rattle.tree_model.specs.Tree.{Tree, node_at, with_node, without, is_directory, kind_of, entries_of, least_unused, widened, moved, resized, written}

infixl 10 ◌>>=◌
abbrev pub ◌>>=◌ : {A B : Type 0} → Result A Refusal → (A → Result B Refusal) → Result B Refusal
(Ok x) >>= f = f x
(Err e) >>= f = Err e

-- a refusal where the test holds
abbrev pub refuse_if : Bool → Refusal → Result ℕ Refusal
refuse_if true refusal = Err refusal
refuse_if false refusal = Ok 0

abbrev pub or_refuse : {A : Type 0} → Option A → Refusal → Result A Refusal
or_refuse None refusal = Err refusal
or_refuse (Some x) refusal = Ok x

-- From the node at a path on along more names: the first name that isn't there, or the first file with names after it, stops.
abbrev pub walk_from : Tree → Path → Path → Result Node Refusal
walk_from tree at [] = or_refuse (node_at tree at) NotFound
walk_from tree at (name ∷ names) = do
  node ← or_refuse (node_at tree at) NotFound
  _ ← refuse_if (not (is_directory node)) NotADirectory
  walk_from tree (at ++ name ∷ []) names

abbrev pub walk : Tree → Path → Result Node Refusal
walk tree path = walk_from tree [] path

-- the bytes of the file that the node is
abbrev pub bytes_of : Content → Result (List ℕ) Refusal
bytes_of (File bytes) = Ok bytes
bytes_of (Directory width) = Err IsADirectory

-- whether a directory has entries
abbrev pub has_entries : Tree → Path → Bool
has_entries tree path = not (nat_eq (length (entries_of tree path)) 0)

-- ---- the rules, each with its refusals in their order: the first that holds is given

-- A new node, empty and with the least unused number, makes its parent at least as wide as it has entries.
abbrev pub make : Tree → Path → Content → Result (Reply × Tree) Refusal
make tree path content = do
  _ ← refuse_if (is_root path) Exists
  parent ← walk tree (parent_of path)
  _ ← refuse_if (not (is_directory parent)) NotADirectory
  _ ← refuse_if (is_some (node_at tree path)) Exists
  number ← or_refuse (least_unused tree) NoNumbers
  Ok (Done, widened (with_node tree path (record { number = number; content = content })) (parent_of path))

-- the tree after a write of these bytes into a file of those
abbrev pub written_tree : Tree → Path → ℕ → List ℕ → ℕ → List ℕ → Tree
written_tree tree path number bytes offset [] = tree
written_tree tree path number bytes offset (byte ∷ rest) = with_node tree path (record { number = number; content = File (written bytes offset (byte ∷ rest)) })

-- A file has at most 4,294,967,296 bytes. A gap before what is written is filled with zeros.
abbrev pub write : Tree → Path → ℕ → List ℕ → Result (Reply × Tree) Refusal
write tree path offset given = do
  node ← walk tree path
  bytes ← bytes_of node.content
  _ ← refuse_if (nat_lt 4294967296 (offset + length given)) TooBig
  Ok (Done, written_tree tree path node.number bytes offset given)

-- the first bytes, with zeros added up to the size
abbrev pub truncate : Tree → Path → ℕ → Result (Reply × Tree) Refusal
truncate tree path size = do
  node ← walk tree path
  bytes ← bytes_of node.content
  _ ← refuse_if (nat_lt 4294967296 size) TooBig
  Ok (Done, with_node tree path (record { number = node.number; content = File (resized bytes size) }))

-- A file leaves the tree, or a directory without entries. No width changes.
abbrev pub remove : Tree → Path → Result (Reply × Tree) Refusal
remove tree path = do
  node ← walk tree path
  _ ← refuse_if (is_root path) RootFixed
  _ ← refuse_if (is_directory node && has_entries tree path) NotEmpty
  Ok (Done, without tree path)

-- Every path that begins with one begins with the other, which doesn't lie below the one and isn't there.
abbrev pub rename : Tree → Path → Path → Result (Reply × Tree) Refusal
rename tree from to = do
  node ← walk tree from
  _ ← refuse_if (is_root to) Exists
  parent ← walk tree (parent_of to)
  _ ← refuse_if (not (is_directory parent)) NotADirectory
  _ ← refuse_if (is_some (node_at tree to)) Exists
  _ ← refuse_if (is_root from) RootFixed
  _ ← refuse_if (is_some (strip from to)) Inside
  Ok (Done, widened (moved from to tree) (parent_of to))

-- the bytes from an offset on, at most so many, up to the end
abbrev pub read : Tree → Path → ℕ → ℕ → Result (Reply × Tree) Refusal
read tree path offset len = do
  node ← walk tree path
  bytes ← bytes_of node.content
  Ok (Data (take len (drop offset bytes)), tree)

-- the entries of a directory, by the bytes of their names
abbrev pub list : Tree → Path → Result (Reply × Tree) Refusal
list tree path = do
  node ← walk tree path
  _ ← refuse_if (not (is_directory node)) NotADirectory
  Ok (Entries (entries_of tree path), tree)

-- how many bytes a file has, or how many entries a directory has
abbrev pub size_of : Tree → Path → Content → ℕ
size_of tree path (File bytes) = length bytes
size_of tree path (Directory width) = length (entries_of tree path)

abbrev pub stat : Tree → Path → Result (Reply × Tree) Refusal
stat tree path = do
  node ← walk tree path
  Ok (StatOf (kind_of node.content) node.number (size_of tree path node.content), tree)

-- what is refused; a layout's pieces aren't known to the tree
abbrev pub layout : Tree → Path → Result (Reply × Tree) Refusal
layout tree path = do
  node ← walk tree path
  bytes ← bytes_of node.content
  Ok (Done, tree)

-- ---- every command

-- the reply and the tree after a command, or why it is refused
abbrev pub attempt : Tree → Command → Result (Reply × Tree) Refusal
attempt tree (Mkdir path) = make tree path (Directory 0)
attempt tree (Create path) = make tree path (File [])
attempt tree (Write path offset bytes) = write tree path offset bytes
attempt tree (Truncate path size) = truncate tree path size
attempt tree (Remove path) = remove tree path
attempt tree (Rename from to) = rename tree from to
attempt tree (Read path offset len) = read tree path offset len
attempt tree (ListOf path) = list tree path
attempt tree (Stat path) = stat tree path
attempt tree (Layout path) = layout tree path
attempt tree Space = Ok (Done, tree)
attempt tree Checkpoint = Ok (Done, tree)
attempt tree End = Ok (Done, tree)

-- why a command is refused, if it is
abbrev pub refusal_of : Tree → Command → Option Refusal
refusal_of tree command = result_err (attempt tree command)

-- a refusal is a reply that leaves the tree
abbrev pub settled : Tree → Result (Reply × Tree) Refusal → Reply × Tree
settled tree (Ok done) = done
settled tree (Err refusal) = (Refused refusal, tree)

-- the reply to a command, and the tree after it
unfoldable pub step : Tree → Command → Reply × Tree
step tree command = settled tree (attempt tree command)

-- whether a command is of the tree alone, and not of its blocks, of space or of points
abbrev pub is_plain : Command → Bool
is_plain (Layout path) = false
is_plain Space = false
is_plain Checkpoint = false
is_plain End = false
is_plain (Mkdir path) = true
is_plain (Create path) = true
is_plain (Write path offset bytes) = true
is_plain (Truncate path size) = true
is_plain (Remove path) = true
is_plain (Rename from to) = true
is_plain (Read path offset len) = true
is_plain (ListOf path) = true
is_plain (Stat path) = true

-- whether a command may change the tree
abbrev pub is_change : Command → Bool
is_change (Mkdir path) = true
is_change (Create path) = true
is_change (Write path offset []) = false
is_change (Write path offset (byte ∷ bytes)) = true
is_change (Truncate path size) = true
is_change (Remove path) = true
is_change (Rename from to) = true
is_change (Read path offset len) = false
is_change (ListOf path) = false
is_change (Stat path) = false
is_change (Layout path) = false
is_change Space = false
is_change Checkpoint = false
is_change End = false
