use Rattle.tree_model.specs.Tree.{new_tree}
use Rattle.tree_model.proofs.RenameLaws.{keeps_trees}
use Rattle.node_tests.proofs.sessions.session.Goals as goal

pub goes_so-requires : goal.goes_so-requires
goes_so-requires c = record { tree = new_tree; is_tree = keeps_trees.at_first; holds = c.in_ok-table.ensures }
