use Rattle.std.proofs.Common.{refl, arith}
use Rattle.vol_numbers.specs.Geometry.{layout_of}
use Rattle.block_tree.specs.Tree.{blocks_in}
use Rattle.image_model.specs.Walk.{tree_met}
use Rattle.image_walk.specs.Trees.{owner_met}
use Rattle.image_walk.proofs.GoingLaws.{cause_passed}
use Rattle.image_walk.proofs.TreeLaws.{passes_err}
use Rattle.image_walk.proofs.NodeLaws.{tree_zero, tree_one, tree_more, tree_ends}
use Rattle.image_walk.proofs.ReadsLaws.{passed_on, leaf_counted, tree_counted}
use Rattle.image_walk.proofs.trees.walk_tree.Goals as goal

pub returns-then-height-eq0-clause-walked : goal.returns-then-height-eq0-clause-walked
returns-then-height-eq0-clause-walked g c tells =
    tree_zero (layout_of c.args.g.now) c.args.owner.now (blocks_in (g.D.Disk.state c.args.disk.now).contents) c.args.reached.now c.meet_place.new.reached c.args.height c.args.ptr c.meet_place.result c.if-height-eq0.true c.meet_place.ensures.walked

pub returns-in_err-meet_index-clause-walked : goal.returns-in_err-meet_index-clause-walked
returns-in_err-meet_index-clause-walked g c tells =
    let lay = layout_of c.args.g.now in
    let o = c.args.owner.now in
    let read = blocks_in (g.D.Disk.state c.args.disk.now).contents in
    passes_err lay c.args.reached.now _ (tree_met read (owner_met o) o.blocks c.args.height c.args.ptr) _ c.from_residual.result c.in_err-meet_index.field-0.0 c.from_residual.ensures.1
    (tree_ends lay o read c.args.reached.now c.args.height c.args.ptr c.in_err-meet_index.field-0.0 c.if-height-eq0.false c.in_err-meet_index.ensures.walked)

pub returns-in_err-meet_index-clause-cause : goal.returns-in_err-meet_index-clause-cause
returns-in_err-meet_index-clause-cause g c = cause_passed _ _ _ _ refl c.from_residual.ensures.1 c.in_err-meet_index.ensures.cause

pub returns-then-height-eq1-clause-walked : goal.returns-then-height-eq1-clause-walked
returns-then-height-eq1-clause-walked g c tells =
    tree_one (layout_of c.args.g.now) c.args.owner.now (blocks_in (g.D.Disk.state c.args.disk.now).contents) c.args.reached.now (record c.args.reached.now { marks = c.meet_index.new.marks }) c.walk_leaf.new.reached c.args.height c.args.ptr c.walk_leaf.result
    c.if-height-eq1.true c.in_ok-meet_index.ensures.walked refl refl (c.walk_leaf.ensures.walked tells)

pub returns-clause-walked : goal.returns-clause-walked
returns-clause-walked g c tells =
    tree_more (layout_of c.args.g.now) c.args.owner.now (blocks_in (g.D.Disk.state c.args.disk.now).contents) c.args.reached.now (record c.args.reached.now { marks = c.meet_index.new.marks }) c.walk_top.new.reached c.args.height c.args.ptr c.walk_top.result
    c.if-height-eq0.false c.if-height-eq1.false c.in_ok-meet_index.ensures.walked refl refl (c.walk_top.ensures.walked tells)

pub returns-then-height-eq1-clause-reads : goal.returns-then-height-eq1-clause-reads
returns-then-height-eq1-clause-reads g c =
    let read = blocks_in (g.D.Disk.state c.args.disk.now).contents in
    passed_on c.walk_leaf.result _ _ c.walk_leaf.ensures.reads (λ reads tells. omega (arith, reads, c.in_ok-meet_index.ensures.counted, leaf_counted read c.args.owner.now c.args.height c.args.ptr c.if-height-eq1.true))

pub returns-clause-reads : goal.returns-clause-reads
returns-clause-reads g c =
    let read = blocks_in (g.D.Disk.state c.args.disk.now).contents in
    passed_on c.walk_top.result _ _ c.walk_top.ensures.reads
    (λ reads tells. let behind = reads tells in omega (arith, behind, c.in_ok-meet_index.ensures.counted, tree_counted read c.args.owner.now c.args.height c.args.ptr c.if-height-eq0.false c.if-height-eq1.false))
