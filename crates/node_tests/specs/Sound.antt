-- A table that holds some tree.
use Rattle.tree_model.specs.Shape.{IsTree}
use Rattle.tree_model.specs.Tree.{Tree}
use Rattle.node_table.specs.Held.{Nodes, HoldsNodes}

pub record IsSound (nodes : Nodes) : Type 0 where
  pub tree : Tree
  pub is_tree : IsTree tree
  pub holds : HoldsNodes nodes tree
