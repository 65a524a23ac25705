use Rattle.std.proofs.Common.{List, sym, subst}
use Rattle.vol_numbers.specs.Geometry.{layout_of}
use Rattle.block_tree.specs.Tree.{blocks_in}
use Rattle.image_model.specs.Met.{Met}
use Rattle.image_model.specs.Walk.{leaf_met}
use Rattle.image_walk.specs.Kept.{lasts_of}
use Rattle.image_walk.specs.Trees.{owner_met, Passes}
use Rattle.image_walk.proofs.GoingLaws.{cause_passed}
use Rattle.image_walk.proofs.TreeLaws.{passes_none, passes_err, passes_device}
use Rattle.image_walk.proofs.NodeLaws.{leaf_none, leaf_over, leaf_ends}
use Rattle.image_walk.proofs.trees.walk_leaf.Goals as goal

pub returns-then-at-eq0-clause-walked : goal.returns-then-at-eq0-clause-walked
returns-then-at-eq0-clause-walked g c tells =
    let o = c.args.owner.now in
    let read = blocks_in (g.D.Disk.state c.args.disk.now).contents in
    subst (λ (ms : List Met). Passes (layout_of c.args.g.now) c.args.reached.now c.args.reached.now ms (lasts_of o.blocks ms))
    (sym (leaf_none read (owner_met o) o.blocks c.args.place c.args.at c.if-at-eq0.true)) (passes_none (layout_of c.args.g.now) c.args.reached.now)

pub returns-in_err-ptrs-clause-walked : goal.returns-in_err-ptrs-clause-walked
returns-in_err-ptrs-clause-walked g c tells = passes_device _ _ _ _ _ _ c.from_residual.ensures.1

pub returns-in_err-meet_empty-clause-walked : goal.returns-in_err-meet_empty-clause-walked
returns-in_err-meet_empty-clause-walked g c tells =
    let lay = layout_of c.args.g.now in
    let o = c.args.owner.now in
    let read = blocks_in (g.D.Disk.state c.args.disk.now).contents in
    passes_err lay c.args.reached.now c.args.reached.now (leaf_met read (owner_met o) o.blocks c.args.place c.args.at) _ c.from_residual-in_err-meet_empty.result c.in_err-meet_empty.field-0.0 c.from_residual-in_err-meet_empty.ensures.1
    (leaf_ends lay o read c.args.reached.now c.args.place c.args.at c.in_ok-ptrs.ptrs c.in_err-meet_empty.field-0.0 c.if-at-eq0.false (c.in_ok-ptrs.ensures.pointers tells) (c.in_err-meet_empty.ensures.walked lay c.args.reached.now.marks))

pub returns-in_err-meet_empty-clause-cause : goal.returns-in_err-meet_empty-clause-cause
returns-in_err-meet_empty-clause-cause g c = cause_passed _ _ _ _ c.in_ok-ptrs.ensures.cause c.from_residual-in_err-meet_empty.ensures.1 c.in_err-meet_empty.ensures.cause

pub returns-clause-walked : goal.returns-clause-walked
returns-clause-walked g c tells =
    let lay = layout_of c.args.g.now in
    let o = c.args.owner.now in
    let read = blocks_in (g.D.Disk.state c.args.disk.now).contents in
    leaf_over lay o read c.args.reached.now c.meet_places.new.reached c.args.place c.args.at c.in_ok-ptrs.ptrs c.meet_places.result c.if-at-eq0.false (c.in_ok-ptrs.ensures.pointers tells)
    (c.in_ok-meet_empty.ensures.walked lay c.args.reached.now.marks) c.meet_places.ensures.walked
