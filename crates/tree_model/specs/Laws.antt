-- What holds of the definition of the tree, in words that its rules don't use.
use Rattle.std.specs.Prelude.{◌≡◌, ◌≢◌, ◌↔◌, ◌≤◌, ◌<◌, ℕ, max, true, false, if◌then◌else◌, List, [], ◌∷◌, ◌++◌, ◌+◌, ◌/◌, length, Contains, Some, None}
use Rattle.std.specs.Cmp.Lexicographic.{slice_cmp}
use Rattle.std.specs.Ordering.{eq_by_cmp, nat_cmp}
use Rattle.std.specs.declared.cmp.Ordering.TheVariants.{Less}
use Rattle.tree_model.specs.declared.command.Command.{Command}
use Rattle.tree_model.specs.declared.command.Command.TheVariants.{Write, Rename}
use Rattle.tree_model.specs.declared.node.Node.{Node}
use Rattle.tree_model.specs.declared.node.Content.TheVariants.{File, Directory}
use Rattle.tree_model.specs.declared.refusal.Refusal.{Refusal}
use Rattle.tree_model.specs.declared.reply.Entry.{Entry}
use Rattle.tree_model.specs.declared.reply.Reply.TheVariants.{Done, Refused}
use Rattle.tree_model.specs.Follow.{Follows, ComesFrom, KeepsUntouched}
use Rattle.tree_model.specs.Order.{IsOrdered}
use Rattle.tree_model.specs.Path.{Path, path_cmp, parent_of, strip}
use Rattle.tree_model.specs.Shape.{IsTree}
use Rattle.tree_model.specs.Tree.{Tree, new_tree, node_at, with_node, kind_of, entries_of, is_used, least_unused}
use Rattle.tree_model.specs.Step.{step, refusal_of, is_change}
use Rattle.tree_model.specs.Touched.{touched}

-- a command leaves the tree in order
abbrev pub KeepsOrder : Type 0
KeepsOrder = (tree : Tree) (command : Command) → IsOrdered tree → IsOrdered (step tree command).1

-- trees in order that have the same nodes are one tree
abbrev pub SameTree : Type 0
SameTree = (s t : Tree) → IsOrdered s → IsOrdered t → ((path : Path) → node_at s path ≡ node_at t path) → s ≡ t

-- what is put at a path is there, and nothing else changes
abbrev pub PutAt : Type 0
PutAt = (tree : Tree) (path : Path) (node : Node) (q : Path) → node_at (with_node tree path node) q ≡ (if eq_by_cmp path_cmp q path then Some node else node_at tree q)

-- a refused command leaves the tree
abbrev pub RefusedLeaves : Type 0
RefusedLeaves = (tree : Tree) (command : Command) (refusal : Refusal) → (step tree command).0 ≡ Refused refusal → (step tree command).1 ≡ tree

-- a command's reply is a refusal exactly where the command has that refusal
abbrev pub RefusalTells : Type 0
RefusalTells = (tree : Tree) (command : Command) (refusal : Refusal) → (refusal_of tree command ≡ Some refusal) ↔ ((step tree command).0 ≡ Refused refusal)

-- a change that isn't refused is done
abbrev pub ChangesAreDone : Type 0
ChangesAreDone = (tree : Tree) (command : Command) → is_change command ≡ true → refusal_of tree command ≡ None → (step tree command).0 ≡ Done

-- a command that changes nothing leaves the tree
abbrev pub ReadingLeaves : Type 0
ReadingLeaves = (tree : Tree) (command : Command) → is_change command ≡ false → (step tree command).1 ≡ tree

-- a number from 2 to 65,535 that no node has, and each lesser one from 2 on is a node's
pub record IsLeastUnused (tree : Tree) (number : ℕ) : Type 0 where
  pub at_least : 2 ≤ number
  pub at_most : number ≤ 65535
  pub unused : is_used tree number ≡ false
  pub least : (k : ℕ) → 2 ≤ k → k < number → is_used tree k ≡ true

-- the number of a new node is the least unused, and it is wanting only where all are used
pub record GivesLeast : Type 0 where
  pub some : (tree : Tree) (number : ℕ) → least_unused tree ≡ Some number → IsLeastUnused tree number
  pub none : (tree : Tree) → least_unused tree ≡ None → (k : ℕ) → 2 ≤ k → k ≤ 65535 → is_used tree k ≡ true

-- the tree with the root alone is a tree, and a command leaves a tree a tree
pub record KeepsTree : Type 0 where
  pub at_first : IsTree new_tree
  pub after_step : (tree : Tree) (command : Command) → IsTree tree → IsTree (step tree command).1

-- exactly the paths that begin with one begin with the other, and the directory that the node comes into may be wider
pub record RenameMoves (from to : Path) (old new : Tree) : Type 0 where
  pub below : (rest : Path) → node_at new (to ++ rest) ≡ node_at old (from ++ rest)
  pub left : (rest : Path) → node_at new (from ++ rest) ≡ None
  pub others : (path : Path) → path ≢ parent_of to → strip from path ≡ None → strip to path ≡ None → node_at new path ≡ node_at old path
  pub parent : (node : Node) → node_at new (parent_of to) ≡ Some node → (before : Node) × (node_at old (parent_of to) ≡ Some before) × Follows [] before node

abbrev pub RenamesMove : Type 0
RenamesMove = (tree : Tree) (from to : Path) → IsTree tree → (step tree (Rename from to)).0 ≡ Done → RenameMoves from to tree (step tree (Rename from to)).1

-- each node of the tree after a command follows one of before with the same number, or is new
abbrev pub NodesFollow : Type 0
NodesFollow = (tree : Tree) (command : Command) → IsTree tree → ComesFrom (touched tree command) tree (step tree command).1

-- no byte of a place that a command doesn't touch changes, wherever the file is before and after it
abbrev pub TouchesOnly : Type 0
TouchesOnly = (tree : Tree) (command : Command) → IsTree tree → (p q : Path) (number : ℕ) (old new : List ℕ)
    → node_at tree p ≡ Some (record { number = number; content = File old }) → node_at (step tree command).1 q ≡ Some (record { number = number; content = File new })
    → KeepsUntouched (touched tree command) number old new

-- A write touches exactly the places in which it has a byte: each place that it touches has one, and where the write isn't refused each of its
-- bytes is in a place that it touches.
pub record TouchesWritten : Type 0 where
  pub has_byte : (tree : Tree) (path : Path) (offset : ℕ) (bytes : List ℕ) (number place : ℕ) → Contains (touched tree (Write path offset bytes)) (number, place)
      → (i : ℕ) × (offset ≤ i) × (i < offset + length bytes) × (i / 4096 ≡ place)
  pub each_byte : (tree : Tree) (path : Path) (offset : ℕ) (bytes : List ℕ) (node : Node) (i : ℕ) → refusal_of tree (Write path offset bytes) ≡ None → node_at tree path ≡ Some node
      → offset ≤ i → i < offset + length bytes → Contains (touched tree (Write path offset bytes)) (node.number, i / 4096)

-- a width never falls, wherever the directory is before and after the command
abbrev pub WidthsNeverFall : Type 0
WidthsNeverFall = (tree : Tree) (command : Command) → IsTree tree → (p q : Path) (number old new : ℕ)
    → node_at tree p ≡ Some (record { number = number; content = Directory old }) → node_at (step tree command).1 q ≡ Some (record { number = number; content = Directory new })
    → old ≤ new

-- a directory's width after a command is the greater of what it was and its number of entries then, wherever it is before and after
abbrev pub WidthsAreGreatest : Type 0
WidthsAreGreatest = (tree : Tree) (command : Command) → IsTree tree → (p q : Path) (number old new : ℕ)
    → node_at tree p ≡ Some (record { number = number; content = Directory old }) → node_at (step tree command).1 q ≡ Some (record { number = number; content = Directory new })
    → new ≡ max old (length (entries_of (step tree command).1 q))

-- a directory with a number that was unused has no entries, and width 0
abbrev pub NewDirectoriesAreEmpty : Type 0
NewDirectoriesAreEmpty = (tree : Tree) (command : Command) → IsTree tree → (path : Path) (number width : ℕ) → is_used tree number ≡ false
    → node_at (step tree command).1 path ≡ Some (record { number = number; content = Directory width }) → (length (entries_of (step tree command).1 path) ≡ 0) × (width ≡ 0)

-- the names rise by their bytes
abbrev pub NamesRise : List Entry → Type 0
NamesRise [] = Unit {0}
NamesRise (e ∷ []) = Unit {0}
NamesRise (e ∷ next ∷ es) = (slice_cmp nat_cmp e.name next.name ≡ Less) × NamesRise (next ∷ es)

-- the entry of a node by this name
abbrev pub entry_of : List ℕ → Node → Entry
entry_of name node = record { kind = kind_of node.content; number = node.number; name = name }

-- The entries of a directory are exactly the nodes one name further, and their names rise by their bytes.
pub record EntriesAre : Type 0 where
  pub each : (tree : Tree) (path : Path) (name : List ℕ) (node : Node) → node_at tree (path ++ name ∷ []) ≡ Some node → Contains (entries_of tree path) (entry_of name node)
  pub only : (tree : Tree) (path : Path) (entry : Entry) → IsOrdered tree → Contains (entries_of tree path) entry
      → (node : Node) × (node_at tree (path ++ entry.name ∷ []) ≡ Some node) × (entry ≡ entry_of entry.name node)
  pub rise : (tree : Tree) (path : Path) → IsOrdered tree → NamesRise (entries_of tree path)
