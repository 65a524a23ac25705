-- The places that a command touches: pairs of a file's number and a place of 4,096 bytes in it.
use Rattle.std.specs.Prelude.{ℕ, zero, suc, ◌+◌, ◌-◌, ◌/◌, ◌%◌, not, ◌&&◌, List, [], ◌∷◌, length, nat_lt, nat_eq, if◌then◌else◌, Option, Some, None, Result, Ok, Err}
use Rattle.tree_model.specs.declared.command.Command.{Command}
use Rattle.tree_model.specs.declared.command.Command.TheVariants.{Mkdir, Create, Write, Truncate, Remove, Rename, Read, List as ListOf, Stat, Layout, Space, Checkpoint, End}
use Rattle.tree_model.specs.declared.node.Node.{Node}
use Rattle.tree_model.specs.declared.node.Content.{Content}
use Rattle.tree_model.specs.declared.node.Content.TheVariants.{File, Directory}
use Rattle.tree_model.specs.declared.refusal.Refusal.{Refusal}
use Rattle.tree_model.specs.declared.reply.Reply.{Reply}
use Rattle.tree_model.specs.Tree.{Tree, node_at}
use Rattle.tree_model.specs.Step.{attempt}

-- so many places of a file from one on
unfoldable pub places : ℕ → ℕ → ℕ → List (ℕ × ℕ)
places number first zero = []
places number first (suc count) = (number, first) ∷ places number (first + 1) count

-- a write touches each place in which it has a byte
abbrev pub written_places : Option Node → ℕ → ℕ → List (ℕ × ℕ)
written_places None offset len = []
written_places (Some node) offset len = places node.number (offset / 4096) ((offset + len - 1) / 4096 + 1 - offset / 4096)

abbrev pub cut_place : ℕ → Content → ℕ → List (ℕ × ℕ)
cut_place number (Directory width) size = []
cut_place number (File bytes) size = if nat_lt size (length bytes) && not (nat_eq (size % 4096) 0) then (number, size / 4096) ∷ [] else []

-- a truncation to a smaller size touches the place that it cuts in two
abbrev pub truncated_places : Option Node → ℕ → List (ℕ × ℕ)
truncated_places None size = []
truncated_places (Some node) size = cut_place node.number node.content size

-- what a command touches where it is accepted
abbrev pub touched_by : Tree → Command → List (ℕ × ℕ)
touched_by tree (Write path offset []) = []
touched_by tree (Write path offset (byte ∷ bytes)) = written_places (node_at tree path) offset (length (byte ∷ bytes))
touched_by tree (Truncate path size) = truncated_places (node_at tree path) size
touched_by tree (Mkdir path) = []
touched_by tree (Create path) = []
touched_by tree (Remove path) = []
touched_by tree (Rename from to) = []
touched_by tree (Read path offset len) = []
touched_by tree (ListOf path) = []
touched_by tree (Stat path) = []
touched_by tree (Layout path) = []
touched_by tree Space = []
touched_by tree Checkpoint = []
touched_by tree End = []

abbrev pub where_accepted : Result (Reply × Tree) Refusal → List (ℕ × ℕ) → List (ℕ × ℕ)
where_accepted (Ok done) places = places
where_accepted (Err refusal) places = []

-- a refused command touches nothing
abbrev pub touched : Tree → Command → List (ℕ × ℕ)
touched tree command = where_accepted (attempt tree command) (touched_by tree command)
