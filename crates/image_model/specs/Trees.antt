-- Laws of the tree that an image stands for.
use Rattle.std.specs.Prelude.{◌≡◌, List}
use Rattle.vol_numbers.specs.declared.block.Block.{Block}
use Rattle.tree_model.specs.Order.{IsOrdered}
use Rattle.tree_model.specs.Path.{Path}
use Rattle.tree_model.specs.Shape.{IsTree}
use Rattle.tree_model.specs.Tree.{Tree, node_at}
use Rattle.volume_model.specs.Machine.{Stored}
use Rattle.image_model.specs.Holds.{HoldsTree}
use Rattle.image_model.specs.Seen.{Seen, seen}
use Rattle.image_model.specs.Sound.{IsNamed}
use Rattle.image_model.specs.Stands.{Stands, node_along}

-- What an image stands for is a tree in all that is asked of one: fronts of paths are directories, and numbers, widths and sizes have their limits.
abbrev pub StandingTree : Type 0
StandingTree = (image : List Block) (s : Stored) → Stands image s → IsTree s.tree

-- An image that stands for a tree holds it node by node.
abbrev pub TreeIsHeld : Type 0
TreeIsHeld = (image : List Block) (s : Stored) → Stands image s → HoldsTree (seen image) s.tree

-- A tree that is held node by node is seen, and its numbers have one path each.
abbrev pub HeldIsSeen : Type 0
HeldIsSeen = (s : Seen) (tree : Tree) → IsTree tree → HoldsTree s tree → ((path : Path) → node_at tree path ≡ node_along s path) × IsNamed s

-- Where each used number has one path, a tree is seen.
abbrev pub TreeExists : Type 0
TreeExists = (s : Seen) → IsNamed s → (tree : Tree) × IsOrdered tree × ((path : Path) → node_at tree path ≡ node_along s path)
