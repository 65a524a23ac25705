use Rattle.std.proofs.Common.{◌≡◌, ◌+◌, ◌++◌, ◌∷◌, [], ℕ, length, List, get_or, sym, ap, subst, ◌∙◌, arith, refl, append_assoc, length-append}
use Rattle.std.specs.Prelude.{IsTrue}
use Rattle.block_format.specs.Inode.{inode_shape}
use Rattle.block_format.specs.declared.inode.Inode.{Inode}
use Rattle.block_tree.specs.Notes.{page_blocks}
use Rattle.dirty_store.specs.Laws.{dirty_spots}
use Rattle.disk_model.specs.Disk.{State}
use Rattle.disk_model.proofs.Moments.{adds_none, adds_read}
use Rattle.node_plan.specs.Faults.{HasNodeCause}
use Rattle.node_plan.specs.declared.fault.NodeFault.TheVariants.{Damaged, Short, OutOfMemory}
use Rattle.point_plan.specs.Gathered.{pages_in}
use Rattle.point_plan.specs.PlanNodes.{AreAtDirty}
use Rattle.point_plan.specs.State.{HoldsPoint, IsOfSize}
use Rattle.point_plan.specs.declared.planned_node.PlannedNode.{PlannedNode}
use Rattle.point_plan.proofs.NodesLoop.{AreAll, AreSoFar, IsAt, all_so_far, at_place, cause_passed, damage_passed, few_numbers, nodes_ascend, none_so_far, number_place, on_error, one_so_far, passed, plan_at, staged_number, stops_short, was_error, zip_at, zip_long}
use Rattle.point_plan.proofs.NodesPlanned.{nodes_planned}
use Rattle.point_plan.proofs.nodes.plan_nodes.Given.{Over}
use Rattle.point_plan.proofs.nodes.plan_nodes.Goals as goal

pub loop-k-init : goal.loop-k-init
loop-k-init g c =
    let items : c.new-nodes.result.items ≡ [] = c.new-nodes.ensures.items in
    record {
      many = ap length items;
      far = subst (λ (nodes : List PlannedNode). AreSoFar g.D.Disk.tells (g.D.Disk.state c.args.disk.now).contents c.args.state.now c.args.numbers.now c.args.changes.now c.args.free.now nodes c.args.free.now) (sym items)
          (none_so_far g.D.Disk.tells (g.D.Disk.state c.args.disk.now).contents c.args.state.now c.args.numbers.now c.args.changes.now c.args.free.now);
      same = λ tells. refl;
      moments = λ tells. adds_none (g.D.Disk.past c.args.disk.now) (λ s. s ≡ g.D.Disk.state c.args.disk.now);
      fixed = refl;
      given = omega arith;
      faults = refl;
    }

pub plan_number-requires-clause-size : goal.plan_number-requires-clause-size
plan_number-requires-clause-size g c = subst (λ f. IsOfSize f.size c.args.state.now) (sym c.loop-k.invariant.fixed) c.requires.size

pub bounds-changes-k : goal.bounds-changes-k
bounds-changes-k g c = omega (arith, zip_long (AreAtDirty (dirty_spots c.args.state.now.dirty.overlay)) c.args.numbers.now c.args.changes.now c.requires.changes)

pub offset_bounds-changes-k : goal.offset_bounds-changes-k
offset_bounds-changes-k g c = let few = few_numbers c.args.state.now c.args.numbers.now c.requires.size.staged c.requires.numbers in omega (arith, few)

pub plan_number-requires-clause-number : goal.plan_number-requires-clause-number
plan_number-requires-clause-number g c =
    (staged_number c.args.state.now c.args.numbers.now c.loop-k.k (get_or c.args.numbers.now c.loop-k.k 0) c.requires.size.staged c.requires.numbers (number_place c.args.numbers.now c.loop-k.k (omega arith))).1

pub plan_number-requires-clause-changes : goal.plan_number-requires-clause-changes
plan_number-requires-clause-changes g c =
    let long = zip_long (AreAtDirty (dirty_spots c.args.state.now.dirty.overlay)) c.args.numbers.now c.args.changes.now c.requires.changes in
    zip_at (AreAtDirty (dirty_spots c.args.state.now.dirty.overlay)) c.args.numbers.now c.args.changes.now c.loop-k.k (get_or c.args.numbers.now c.loop-k.k 0) c.index-changes-k.result c.requires.changes (number_place c.args.numbers.now c.loop-k.k (omega arith)) (at_place c.args.changes.now c.loop-k.k c.index-changes-k.result (omega arith) c.index-changes-k.is)

pub returns-in_err-node-clause-short : goal.returns-in_err-node-clause-short
returns-in_err-node-clause-short g c = λ is.
    let inv = c.loop-k.invariant in
    let long = zip_long (AreAtDirty (dirty_spots c.args.state.now.dirty.overlay)) c.args.numbers.now c.args.changes.now c.requires.changes in
    let number : IsAt c.args.numbers.now (length c.loop-k.nodes.items) (get_or c.args.numbers.now c.loop-k.k 0) =
    subst (λ (i : ℕ). IsAt c.args.numbers.now i (get_or c.args.numbers.now c.loop-k.k 0)) (sym inv.many) (number_place c.args.numbers.now c.loop-k.k (omega arith)) in
    let own : IsAt c.args.changes.now (length c.loop-k.nodes.items) c.index-changes-k.result =
    subst (λ (i : ℕ). IsAt c.args.changes.now i c.index-changes-k.result) (sym inv.many) (at_place c.args.changes.now c.loop-k.k c.index-changes-k.result (omega arith) c.index-changes-k.is) in
    stops_short _ _ _ _ _ _ _ _ inv.far (get_or c.args.numbers.now c.loop-k.k 0) c.index-changes-k.result number own
    (c.in_err-node.ensures.short (was_error PlannedNode c.from_residual.result c.in_err-node.field-0.0 Short c.from_residual.ensures.1 is))

pub returns-in_err-node-clause-left : goal.returns-in_err-node-clause-left
returns-in_err-node-clause-left g c =
    let far = c.loop-k.invariant.far in
    on_error c.from_residual.result c.in_err-node.field-0.0 _ c.from_residual.ensures.1 (pages_in c.loop-k.nodes.items, ap (λ (bs : List ℕ). pages_in c.loop-k.nodes.items ++ bs) c.in_err-node.ensures.unchanged ∙ far.taken)

pub returns-in_err-node-clause-damaged : goal.returns-in_err-node-clause-damaged
returns-in_err-node-clause-damaged g c = damage_passed PlannedNode (List PlannedNode) _ _ _ _ _ _ c.from_residual.result c.in_err-node.field-0.0 c.from_residual.ensures.1 c.loop-k.invariant.given c.in_err-node.ensures.damaged

pub returns-in_err-node-clause-sound : goal.returns-in_err-node-clause-sound
returns-in_err-node-clause-sound g c = λ b is tells r m holds.
    c.in_err-node.ensures.sound b (was_error PlannedNode c.from_residual.result c.in_err-node.field-0.0 (Damaged b) c.from_residual.ensures.1 is) tells r m
    (subst (λ (u : State). HoldsPoint r m u.contents c.args.state.now) (sym (c.loop-k.invariant.same tells)) holds)

pub returns-in_err-node-clause-same : goal.returns-in_err-node-clause-same
returns-in_err-node-clause-same g c = λ tells. c.in_err-node.ensures.same tells ∙ c.loop-k.invariant.same tells

pub returns-in_err-node-clause-moments : goal.returns-in_err-node-clause-moments
returns-in_err-node-clause-moments g c = λ tells. adds_read (c.loop-k.invariant.moments tells) (c.loop-k.invariant.same tells) (c.in_err-node.ensures.moments tells)

pub returns-in_err-node-clause-fixed : goal.returns-in_err-node-clause-fixed
returns-in_err-node-clause-fixed g c = c.in_err-node.ensures.fixed ∙ c.loop-k.invariant.fixed

pub returns-in_err-node-clause-cause : goal.returns-in_err-node-clause-cause
returns-in_err-node-clause-cause g c = cause_passed PlannedNode (List PlannedNode) _ _ _ c.from_residual.result c.in_err-node.field-0.0 c.from_residual.ensures.1 c.loop-k.invariant.faults c.in_err-node.ensures.cause

pub loop-k-preserved : goal.loop-k-preserved
loop-k-preserved g c =
    let inv = c.loop-k.invariant in
    let is = c.in_ok-node.ensures in
    let all_long = zip_long (AreAtDirty (dirty_spots c.args.state.now.dirty.overlay)) c.args.numbers.now c.args.changes.now c.requires.changes in
    let number : IsAt c.args.numbers.now (length c.loop-k.nodes.items) (get_or c.args.numbers.now c.loop-k.k 0) =
    subst (λ (i : ℕ). IsAt c.args.numbers.now i (get_or c.args.numbers.now c.loop-k.k 0)) (sym inv.many) (number_place c.args.numbers.now c.loop-k.k (omega arith)) in
    let own : IsAt c.args.changes.now (length c.loop-k.nodes.items) c.index-changes-k.result =
    subst (λ (i : ℕ). IsAt c.args.changes.now i c.index-changes-k.result) (sym inv.many) (at_place c.args.changes.now c.loop-k.k c.index-changes-k.result (omega arith) c.index-changes-k.is) in
    let items : c.add_node.new.nodes.items ≡ c.loop-k.nodes.items ++ c.in_ok-node.node ∷ [] = c.in_ok-add_node.ensures in
    let long : length c.add_node.new.nodes.items ≡ length c.loop-k.nodes.items + 1 = ap length items ∙ length-append c.loop-k.nodes.items (c.in_ok-node.node ∷ []) in
    record {
      many = omega (arith, long, inv.many);
      far = subst (λ (nodes : List PlannedNode). AreSoFar g.D.Disk.tells (g.D.Disk.state c.args.disk.now).contents c.args.state.now c.args.numbers.now c.args.changes.now c.args.free.now nodes c.plan_number.new.free) (sym items)
          (one_so_far _ _ _ _ _ _ _ _ inv.far (get_or c.args.numbers.now c.loop-k.k 0) c.index-changes-k.result number own c.in_ok-node.node c.plan_number.new.free (record {
            number = is.number;
            plan = is.plan;
            over = plan_at g.D.Disk.tells (g.D.Disk.state c.loop-k.disk) (g.D.Disk.state c.args.disk.now) c.args.state.now _ _ c.in_ok-node.node inv.same is.over;
            begins = is.begins;
            used = is.used;
            taken = is.taken;
          }));
      same = λ tells. is.same tells ∙ inv.same tells;
      moments = λ tells. adds_read (inv.moments tells) (inv.same tells) (is.moments tells);
      fixed = is.fixed ∙ inv.fixed;
      given = omega (arith, is.damaged, inv.given);
      faults = is.cause ∙ inv.faults;
    }

pub returns-in_err-add_node-clause-left : goal.returns-in_err-add_node-clause-left
returns-in_err-add_node-clause-left g c =
    let far = c.loop-k.invariant.far in
    let nodes = c.loop-k.nodes.items in
    let own = c.in_ok-node.node.pages in
    on_error c.from_residual-in_err-add_node.result OutOfMemory _ c.from_residual-in_err-add_node.ensures.1
    (pages_in nodes ++ page_blocks own, append_assoc (pages_in nodes) (page_blocks own) c.plan_number.new.free ∙ ap (λ (bs : List ℕ). pages_in nodes ++ bs) c.in_ok-node.ensures.taken ∙ far.taken)

pub returns-in_err-add_node-clause-same : goal.returns-in_err-add_node-clause-same
returns-in_err-add_node-clause-same g c = λ tells. c.in_ok-node.ensures.same tells ∙ c.loop-k.invariant.same tells

pub returns-in_err-add_node-clause-moments : goal.returns-in_err-add_node-clause-moments
returns-in_err-add_node-clause-moments g c = λ tells. adds_read (c.loop-k.invariant.moments tells) (c.loop-k.invariant.same tells) (c.in_ok-node.ensures.moments tells)

pub returns-in_err-add_node-clause-fixed : goal.returns-in_err-add_node-clause-fixed
returns-in_err-add_node-clause-fixed g c = c.in_ok-node.ensures.fixed ∙ c.loop-k.invariant.fixed

pub returns-in_err-add_node-clause-cause : goal.returns-in_err-add_node-clause-cause
returns-in_err-add_node-clause-cause g c =
    subst (HasNodeCause (g.D.Disk.faults c.args.disk.now) (g.D.Disk.faults c.plan_number.new.disk)) (sym (passed c.from_residual-in_err-add_node.result OutOfMemory c.from_residual-in_err-add_node.ensures.1)) (c.in_ok-node.ensures.cause ∙ c.loop-k.invariant.faults)

complete : (g : Over) (c : goal.After-from_vec g) → AreAll g.D.Disk.tells (g.D.Disk.state c.args.disk.now).contents c.args.state.now c.args.numbers.now c.args.changes.now c.args.free.now c.from_vec.result c.loop-k.free
complete g c =
    let inv = c.loop-k.invariant in
    let long = zip_long (AreAtDirty (dirty_spots c.args.state.now.dirty.overlay)) c.args.numbers.now c.args.changes.now c.requires.changes in
    subst (λ (nodes : List PlannedNode). AreAll g.D.Disk.tells (g.D.Disk.state c.args.disk.now).contents c.args.state.now c.args.numbers.now c.args.changes.now c.args.free.now nodes c.loop-k.free) (sym c.from_vec.ensures)
    (all_so_far _ _ _ _ _ _ _ _ inv.far (omega (arith, inv.many), omega (arith, inv.many, long)))

pub returns-clause-ascend : goal.returns-clause-ascend
returns-clause-ascend g c = nodes_ascend c.args.state.now c.args.numbers.now c.from_vec.result c.requires.size.staged c.requires.numbers (complete g c).listed

pub returns-clause-numbers : goal.returns-clause-numbers
returns-clause-numbers g c = (complete g c).listed

pub returns-clause-had : goal.returns-clause-had
returns-clause-had g c = λ k d lt. ((complete g c).far.plans k d lt).had

pub returns-clause-shapes : goal.returns-clause-shapes
returns-clause-shapes g c = λ k d lt. ((complete g c).far.plans k d lt).shape

pub returns-clause-were_shapes : goal.returns-clause-were_shapes
returns-clause-were_shapes g c = λ k d lt. subst (λ (x : Inode). IsTrue (inode_shape x)) ((complete g c).far.plans k d lt).had (c.requires.size.table.shape _)

pub returns-clause-kinds : goal.returns-clause-kinds
returns-clause-kinds g c = λ k d lt. ((complete g c).far.plans k d lt).kind

pub returns-clause-planned : goal.returns-clause-planned
returns-clause-planned g c = λ told r m holds placed places.
    let all = complete g c in
    nodes_planned r m (g.D.Disk.state c.args.disk.now).contents c.args.state.now c.args.numbers.now c.args.changes.now c.from_vec.result holds c.requires.numbers all.listed
    (nodes_ascend c.args.state.now c.args.numbers.now c.from_vec.result c.requires.size.staged c.requires.numbers all.listed) all.far.plans (λ k d lt. all.far.over k d lt told r m holds) placed places

pub returns-clause-metadata_before : goal.returns-clause-metadata_before
returns-clause-metadata_before g c = λ told r m holds k d lt. ((complete g c).far.over k d lt told r m holds).metadata_before

pub returns-clause-metadata : goal.returns-clause-metadata
returns-clause-metadata g c = λ told r m holds new live stand k d lt. ((complete g c).far.over k d lt told r m holds).metadata new live (stand k d lt)

pub returns-clause-at_most : goal.returns-clause-at_most
returns-clause-at_most g c = λ told r m holds new live stand k d lt. ((complete g c).far.over k d lt told r m holds).at_most new live (stand k d lt)

pub returns-clause-used : goal.returns-clause-used
returns-clause-used g c = (complete g c).used

pub returns-clause-taken : goal.returns-clause-taken
returns-clause-taken g c = (complete g c).far.taken

pub returns-clause-begins : goal.returns-clause-begins
returns-clause-begins g c = (complete g c).far.begins

pub returns-clause-damaged : goal.returns-clause-damaged
returns-clause-damaged g c = c.loop-k.invariant.given

pub returns-clause-same : goal.returns-clause-same
returns-clause-same g c = c.loop-k.invariant.same

pub returns-clause-moments : goal.returns-clause-moments
returns-clause-moments g c = c.loop-k.invariant.moments

pub returns-clause-fixed : goal.returns-clause-fixed
returns-clause-fixed g c = c.loop-k.invariant.fixed

pub returns-clause-cause : goal.returns-clause-cause
returns-clause-cause g c = c.loop-k.invariant.faults
