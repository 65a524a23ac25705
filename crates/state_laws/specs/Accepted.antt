-- A change that the tree accepts.
use Rattle.std.specs.Prelude.{◌≡◌, true, None}
use Rattle.tree_model.specs.declared.command.Command.{Command}
use Rattle.tree_model.specs.Step.{refusal_of, is_change}
use Rattle.tree_model.specs.Tree.{Tree}

-- a change that the tree doesn't refuse
pub record IsAccepted (tree : Tree) (command : Command) : Type 0 where
  pub change : is_change command ≡ true
  pub accepted : refusal_of tree command ≡ None
