use Rattle.std.proofs.Common.{ℕ, List, sym, subst, refl, arith}
use Rattle.vol_numbers.specs.Geometry.{layout_of}
use Rattle.disk_model.specs.Disk.{State}
use Rattle.block_tree.specs.Tree.{blocks_in}
use Rattle.image_model.specs.Met.{Met}
use Rattle.image_model.specs.Walk.{leaves_met}
use Rattle.image_walk.specs.Kept.{lasts_of}
use Rattle.image_walk.specs.Trees.{owner_met, top_met, Passes, PassesOver}
use Rattle.image_walk.proofs.GoingLaws.{cause_passed}
use Rattle.image_walk.proofs.TreeLaws.{passes_none, passes_err, passes_device}
use Rattle.image_walk.proofs.NodeLaws.{top_none, top_over, top_empty_ends, top_tops_ends}
use Rattle.image_walk.proofs.ReadsLaws.{passed_on, pointer_some, top_counted}
use Rattle.image_walk.proofs.trees.walk_top.Goals as goal

pub returns-then-at-eq0-clause-walked : goal.returns-then-at-eq0-clause-walked
returns-then-at-eq0-clause-walked g c tells =
    let lay = layout_of c.args.g.now in
    let o = c.args.owner.now in
    let read = blocks_in (g.D.Disk.state c.args.disk.now).contents in
    subst (λ (ms : List Met). Passes lay c.args.reached.now c.args.reached.now ms (lasts_of o.blocks ms)) (sym (top_none lay o read c.args.at c.if-at-eq0.true)) (passes_none lay c.args.reached.now)

pub returns-in_err-tops-clause-walked : goal.returns-in_err-tops-clause-walked
returns-in_err-tops-clause-walked g c tells = passes_device _ _ _ _ _ _ c.from_residual.ensures.1

pub returns-in_err-meet_empty-clause-walked : goal.returns-in_err-meet_empty-clause-walked
returns-in_err-meet_empty-clause-walked g c tells =
    let lay = layout_of c.args.g.now in
    let o = c.args.owner.now in
    let read = blocks_in (g.D.Disk.state c.args.disk.now).contents in
    passes_err lay c.args.reached.now c.args.reached.now (top_met read o c.args.at) _ c.from_residual-in_err-meet_empty.result c.in_err-meet_empty.field-0.0 c.from_residual-in_err-meet_empty.ensures.1
    (top_empty_ends lay o read c.args.reached.now c.args.at c.in_ok-tops.tops c.in_err-meet_empty.field-0.0 c.if-at-eq0.false (c.in_ok-tops.ensures.pointers tells) (c.in_err-meet_empty.ensures.walked lay c.args.reached.now.marks))

pub returns-in_err-meet_empty-clause-cause : goal.returns-in_err-meet_empty-clause-cause
returns-in_err-meet_empty-clause-cause g c = cause_passed _ _ _ _ c.in_ok-tops.ensures.cause c.from_residual-in_err-meet_empty.ensures.1 c.in_err-meet_empty.ensures.cause

pub returns-in_err-meet_tops-clause-walked : goal.returns-in_err-meet_tops-clause-walked
returns-in_err-meet_tops-clause-walked g c tells =
    let lay = layout_of c.args.g.now in
    let o = c.args.owner.now in
    let read = blocks_in (g.D.Disk.state c.args.disk.now).contents in
    passes_err lay c.args.reached.now _ (top_met read o c.args.at) _ c.from_residual-in_err-meet_tops.result c.in_err-meet_tops.field-0.0 c.from_residual-in_err-meet_tops.ensures.1
    (top_tops_ends lay o read c.args.reached.now c.args.at c.in_ok-tops.tops c.in_err-meet_tops.field-0.0 c.if-at-eq0.false (c.in_ok-tops.ensures.pointers tells) (c.in_ok-meet_empty.ensures.walked lay c.args.reached.now.marks) c.in_err-meet_tops.ensures.walked)

pub returns-in_err-meet_tops-clause-cause : goal.returns-in_err-meet_tops-clause-cause
returns-in_err-meet_tops-clause-cause g c = cause_passed _ _ _ _ c.in_ok-tops.ensures.cause c.from_residual-in_err-meet_tops.ensures.1 c.in_err-meet_tops.ensures.cause

pub returns-clause-walked : goal.returns-clause-walked
returns-clause-walked g c tells =
    let lay = layout_of c.args.g.now in
    let o = c.args.owner.now in
    let read = blocks_in (g.D.Disk.state c.args.disk.now).contents in
    let tops : List ℕ = c.in_ok-tops.tops in
    top_over lay o read c.args.reached.now (record c.args.reached.now { marks = c.meet_tops.new.marks }) c.walk_leaves.new.reached c.args.at tops c.walk_leaves.result c.if-at-eq0.false (c.in_ok-tops.ensures.pointers tells)
    (c.in_ok-meet_empty.ensures.walked lay c.args.reached.now.marks) c.in_ok-meet_tops.ensures.walked refl refl
    (subst (λ (s : State). let ms : List Met = leaves_met (blocks_in s.contents) (owner_met o) o.blocks 0 tops in PassesOver lay (record c.args.reached.now { marks = c.meet_tops.new.marks }) c.walk_leaves.new.reached ms (lasts_of o.blocks ms) c.walk_leaves.result)
    (c.in_ok-tops.ensures.same tells) (c.walk_leaves.ensures.walked tells))

pub returns-clause-reads : goal.returns-clause-reads
returns-clause-reads g c =
    let lay = layout_of c.args.g.now in
    let o = c.args.owner.now in
    let read = blocks_in (g.D.Disk.state c.args.disk.now).contents in
    let tops : List ℕ = c.in_ok-tops.tops in
    passed_on c.walk_leaves.result _ _ c.walk_leaves.ensures.reads
    (λ reads tells. omega (arith, reads, c.in_ok-tops.ensures.reads, c.in_ok-meet_tops.ensures.counted, pointer_some c.args.at c.if-at-eq0.false, top_counted lay read o c.args.at tops c.if-at-eq0.false (c.in_ok-tops.ensures.pointers tells)))
