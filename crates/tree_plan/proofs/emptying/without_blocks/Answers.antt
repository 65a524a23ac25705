use Rattle.std.proofs.Common.{◌≡◌, true, Err, ap, subst}
use Rattle.block_tree.specs.Root.{tree_indexes}
use Rattle.block_tree.specs.Tree.{blocks_in}
use Rattle.block_tree.specs.declared.fault.TreeFault.{TreeFault}
use Rattle.block_tree.specs.declared.root.TreeRoot.{TreeRoot}
use Rattle.place_words.specs.Different.{is_among}
use Rattle.tree_plan.specs.Trees.{IsOldIndex}
use Rattle.tree_plan.proofs.FaultLaws.{tree_known}
use Rattle.tree_plan.proofs.emptying.without_blocks.Goals as goal

pub returns-in_err-dropped-clause-among : goal.returns-in_err-dropped-clause-among
returns-in_err-dropped-clause-among g c =
    let old = (g.D.Disk.state c.args.disk.now).contents in
    tree_known c.from_residual.result c.in_err-dropped.field-0.0 (IsOldIndex g.D.Disk.tells old c.args.was.now) c.from_residual.ensures.1
    (λ b e tells. subst (λ (r : TreeRoot). is_among (tree_indexes (blocks_in old) r) b ≡ true) c.root_of.ensures (c.in_err-dropped.ensures.among b (ap (λ (f : TreeFault). Err f) e) tells))
