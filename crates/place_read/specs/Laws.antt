-- What the bytes of a part of a file are to the command `read`.
use Rattle.std.specs.Prelude.{◌≡◌, ℕ, List, length, take, drop, Ok}
use Rattle.tree_model.specs.declared.command.Command.TheVariants.{Read}
use Rattle.tree_model.specs.declared.node.Content.TheVariants.{File}
use Rattle.tree_model.specs.declared.node.Node.{Node}
use Rattle.tree_model.specs.declared.reply.Reply.TheVariants.{Data}
use Rattle.tree_model.specs.Path.{Path}
use Rattle.tree_model.specs.Shape.{IsTree}
use Rattle.tree_model.specs.Step.{step, walk}
use Rattle.tree_model.specs.Tree.{Tree}
use Rattle.volume_model.specs.Machine.{bytes_numbered}

-- Where a path leads to a file, `read` is answered with the bytes of the file of that number, from the offset on at most so many.
abbrev pub ReadIsData : Type 0
ReadIsData = (tree : Tree) (path : Path) (node : Node) (bytes : List ℕ) (offset len : ℕ) → IsTree tree → walk tree path ≡ Ok node → node.content ≡ File bytes
    → ((step tree (Read path offset len)).0 ≡ Data (take len (drop offset (bytes_numbered node.number tree)))) × (length (bytes_numbered node.number tree) ≡ length bytes)
