-- What holds of charges, in words that the table doesn't use.
use Rattle.std.specs.Prelude.{◌≡◌, ℕ, ◌+◌, List, ◌∷◌, length, Some}
use Rattle.tree_model.specs.declared.command.Command.TheVariants.{Write}
use Rattle.tree_model.specs.declared.node.Node.{Node}
use Rattle.tree_model.specs.Path.{Path}
use Rattle.tree_model.specs.Tree.{Tree, node_at}
use Rattle.tree_model.specs.Touched.{touched_by}
use Rattle.space_account.specs.Charge.{charge}

-- a write is charged a block for each place that it touches, and eight
abbrev pub ChargesEachPlace : Type 0
ChargesEachPlace = (tree : Tree) (path : Path) (node : Node) (offset byte : ℕ) (bytes : List ℕ) → node_at tree path ≡ Some node
    → charge (Write path offset (byte ∷ bytes)) ≡ length (touched_by tree (Write path offset (byte ∷ bytes))) + 8
