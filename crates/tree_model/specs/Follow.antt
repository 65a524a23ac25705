-- How a node may differ from what it was before a command.
use Rattle.std.specs.Prelude.{◌≡◌, ◌≤◌, ◌<◌, ◌⊎◌, ℕ, ◌*◌, ◌/◌, false, List, length, slice_index_or, Some, Contains}
use Rattle.tree_model.specs.declared.node.Node.{Node}
use Rattle.tree_model.specs.declared.node.Content.{Content}
use Rattle.tree_model.specs.declared.node.Content.TheVariants.{File, Directory}
use Rattle.tree_model.specs.Path.{Path}
use Rattle.tree_model.specs.Tree.{Tree, node_at, is_used}

-- in each place that the file has now and that isn't touched, the bytes are as they were, where those past an end count as zeros
abbrev pub KeepsUntouched : List (ℕ × ℕ) → ℕ → List ℕ → List ℕ → Type 0
KeepsUntouched touched number old new = (i : ℕ) → 4096 * (i / 4096) < length new → (Contains touched (number, i / 4096) → ⊥) → slice_index_or new i 0 ≡ slice_index_or old i 0

-- a file stays a file, with the bytes that aren't touched; a directory stays a directory, and isn't narrower
abbrev pub ContentFollows : List (ℕ × ℕ) → ℕ → Content → Content → Type 0
ContentFollows touched number (File old) (File new) = KeepsUntouched touched number old new
ContentFollows touched number (Directory old) (Directory new) = old ≤ new
ContentFollows touched number (File old) (Directory new) = ⊥
ContentFollows touched number (Directory old) (File new) = ⊥

pub record Follows (touched : List (ℕ × ℕ)) (old new : Node) : Type 0 where
  pub number : new.number ≡ old.number
  pub content : ContentFollows touched old.number old.content new.content

-- the node of before that a node follows
pub record Follower (touched : List (ℕ × ℕ)) (old : Tree) (node : Node) : Type 0 where
  pub path : Path
  pub before : Node
  pub stood : node_at old path ≡ Some before
  pub follows : Follows touched before node

-- each node of the new tree follows a node of the old one, or has a number that was unused
abbrev pub ComesFrom : List (ℕ × ℕ) → Tree → Tree → Type 0
ComesFrom touched old new = (path : Path) (node : Node) → node_at new path ≡ Some node → Follower touched old node ⊎ (is_used old node.number ≡ false)
