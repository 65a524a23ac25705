use Rattle.std.proofs.Common.{◌≡◌, true, arith}
use Rattle.std.specs.Prelude.{IsTrue}
use Rattle.block_tree.specs.Causes.{IsBlockOf}
use Rattle.block_tree.specs.Root.{tree_indexes}
use Rattle.block_tree.specs.Tree.{blocks_in}
use Rattle.block_tree.proofs.DamageLaws.{damage_like, root_among}
use Rattle.place_words.specs.Different.{is_among}
use Rattle.node_plan.proofs.counting.index_count.Goals as goal

pub returns-in_err-index-clause-among : goal.returns-in_err-index-clause-among
returns-in_err-index-clause-among g c =
    let read = blocks_in (g.D.Disk.state c.args.disk.now).contents in
    let root = c.args.root.now in
    let top = c.has_top_index.ensures.is.0 c.if-not-has_top_index.false in
    damage_like c.from_residual.result c.in_err-index.field-0.0 (IsBlockOf root.ptr) (λ b. IsTrue g.D.Disk.tells → is_among (tree_indexes read root) b ≡ true)
    c.from_residual.ensures.1 c.in_err-index.ensures.read (λ b of tells. root_among read root.height root.ptr b (λ e. omega (arith, e, top.0)) of)
