use Rattle.std.proofs.Common.{sym, ◌∙◌}
use Rattle.plain_tree.proofs.Walks.{walk_missing, walk_file, walk_on}
use Rattle.plain_tree.proofs.node_list.walk.Goals as goal

pub returns-in-None : goal.returns-in-None
returns-in-None c = sym c.loop-depth.invariant ∙ walk_missing _ _ c.loop-depth.depth c.loop-depth-test.true (sym c.in-None.ensures)

pub returns-then-not-is_directory : goal.returns-then-not-is_directory
returns-then-not-is_directory c =
    sym c.loop-depth.invariant
    ∙ walk_file _ _ c.loop-depth.depth c.loop-depth-test.true c.in-Some.node.now (sym c.in-Some.ensures) (sym c.is_directory.ensures ∙ c.if-not-is_directory.true)

pub loop-depth-preserved : goal.loop-depth-preserved
loop-depth-preserved c =
    sym (walk_on _ _ c.loop-depth.depth c.loop-depth-test.true c.in-Some.node.now (sym c.in-Some.ensures) (sym c.is_directory.ensures ∙ c.if-not-is_directory.false))
    ∙ c.loop-depth.invariant
