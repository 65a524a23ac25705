-- What a table has to be for a change to be done in it.
use Rattle.std.specs.Prelude.{◌≡◌, None}
use Rattle.tree_model.specs.Shape.{IsTree}
use Rattle.tree_model.specs.Step.{refusal_of}
use Rattle.tree_model.specs.Tree.{Tree}
use Rattle.tree_model.specs.declared.command.Command.{Command}
use Rattle.node_table.specs.Held.{Nodes, HoldsNodes}

-- the table holds a tree that doesn't refuse the command
pub record IsAccepted (nodes : Nodes) (command : Command) : Type 0 where
  pub tree : Tree
  pub is_tree : IsTree tree
  pub holds : HoldsNodes nodes tree
  pub accepted : refusal_of tree command ≡ None
