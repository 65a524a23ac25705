-- Records that are accepted, and a table that does their commands.
use Rattle.std.specs.Prelude.{◌≡◌, ◌≤◌, ◌<◌, ℕ, ◌+◌, List, length, take}
use Rattle.tree_model.specs.Shape.{IsTree}
use Rattle.tree_model.specs.Step.{step}
use Rattle.tree_model.specs.Tree.{Tree}
use Rattle.tree_model.specs.declared.command.Command.{Command}
use Rattle.tree_model.specs.declared.reply.Reply.TheVariants.{Done}
use Rattle.space_account.specs.Charge.{need, pending}
use Rattle.vol_numbers.specs.declared.block.Block.{Block}
use Rattle.volume_model.specs.Done.{mounted}
use Rattle.volume_model.specs.Machine.{Stored}
use Rattle.volume_model.specs.Space.{free_blocks}
use Rattle.image_model.specs.Seen.{seen}
use Rattle.image_model.specs.Stands.{Shows, layout_in}
use Rattle.volume_model.specs.Accepted.{Accepts}
use Rattle.node_table.specs.Held.{Nodes, HoldsNodes}

-- the table holds some tree
pub record HoldsATree (nodes : Nodes) : Type 0 where
  pub tree : Tree
  pub is_tree : IsTree tree
  pub holds : HoldsNodes nodes tree

-- what the image shows: this tree, which the table holds, and so many free blocks
pub record IsShown (image : List Block) (nodes : Nodes) (free : ℕ) (s : Stored) : Type 0 where
  pub shows : Shows (seen image) s
  pub is_tree : IsTree s.tree
  pub holds : HoldsNodes nodes s.tree
  pub free_is : free ≡ free_blocks (layout_in image) s.tree s.places

-- the same with these records
abbrev pub with_records : Stored → List Command → Stored
with_records s commands = record s { records = commands }

-- The records are accepted, and the table holds the tree after them.
pub record IsTaken (free : ℕ) (nodes : Nodes) (s : Stored) : Type 0 where
  pub accepted : Accepts free s.tree 0 s.records
  pub is_tree : IsTree (mounted s).tree
  pub holds : HoldsNodes nodes (mounted s).tree

-- whatever is stored whose tree the old table held: with these records it is taken by the new one
abbrev pub TakesEach : ℕ → Nodes → List Command → Nodes → Type 0
TakesEach free old commands new = (s : Stored) → IsTree s.tree → HoldsNodes old s.tree → IsTaken free new (with_records s commands)

-- ---- of private functions

-- the tree does the command, and its need fits beside what is charged
abbrev pub CanTake : ℕ → ℕ → Tree → Command → Type 0
CanTake free charged tree command = ((step tree command).0 ≡ Done) × (charged + need command ≤ free)

-- so it is of each tree that the old table holds, and the new one holds the tree after it
abbrev pub TakesNext : ℕ → ℕ → Nodes → Command → Nodes → Type 0
TakesNext free charged old command new = (tree : Tree) → IsTree tree → HoldsNodes old tree → CanTake free charged tree command × HoldsNodes new (step tree command).1

-- so it is of no tree that the table holds
abbrev pub TakesNot : ℕ → ℕ → Nodes → Command → Type 0
TakesNot free charged old command = (tree : Tree) → IsTree tree → HoldsNodes old tree → ¬ CanTake free charged tree command

-- The commands are taken, and are charged so much together.
pub record IsCharged (free : ℕ) (old : Nodes) (commands : List Command) (new : Nodes) (charged : ℕ) : Type 0 where
  pub still : HoldsATree new
  pub charged_is : charged ≡ pending commands
  pub takes : TakesEach free old commands new

-- The commands before this one are accepted on each tree that the table held, and with it they aren't.
pub record IsRefusedAt (free : ℕ) (old : Nodes) (commands : List Command) (i : ℕ) : Type 0 where
  pub within : i < length commands
  pub before : (s : Stored) → IsTree s.tree → HoldsNodes old s.tree → Accepts free s.tree 0 (take i commands)
  pub refused : (s : Stored) → IsTree s.tree → HoldsNodes old s.tree → ¬ Accepts free s.tree 0 (take (i + 1) commands)
