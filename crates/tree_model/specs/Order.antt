-- The order of the nodes of a tree.
use Rattle.std.specs.Prelude.{IsTrue}
use Rattle.std.specs.FinMap.{is_sorted}
use Rattle.tree_model.specs.Path.{path_cmp}
use Rattle.tree_model.specs.Tree.{Tree}

-- in the order of the paths, each path once
abbrev pub IsOrdered : Tree → Type 0
IsOrdered tree = IsTrue (is_sorted path_cmp tree)
