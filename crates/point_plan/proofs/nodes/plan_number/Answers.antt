use Rattle.std.specs.Prelude.{Err, IsErrOf}
use Rattle.std.specs.Option.{option_copied}
use Rattle.vol_numbers.specs.Geometry.{layout_of}
use Rattle.block_tree.specs.Tree.{blocks_in}
use Rattle.node_plan.specs.Nodes.{IsAtPoint}
use Rattle.tree_plan.specs.Pages.{slots_or_none}
use Rattle.node_plan.specs.declared.fault.NodeFault.TheVariants.{Damaged}
use Rattle.node_plan.specs.declared.plan.NodePlan.{NodePlan}
use Rattle.point_plan.proofs.NodesLoop.{was_error}
use Rattle.point_plan.proofs.NumberPlanned.{at_point, found_slots, places_below}
use Rattle.point_plan.proofs.SoundLaws.{damage_of, not_damaged}
use Rattle.point_plan.proofs.nodes.plan_number.Goals as goal

pub plan_node-requires-clause-places : goal.plan_node-requires-clause-places
plan_node-requires-clause-places g c =
    places_below c.args.state.now c.args.number c.get-was.result (slots_or_none (option_copied c.get-left.result)) c.get-was.ensures.is (found_slots c.get-left.result _ c.get-left.ensures) c.requires.size.staged c.args.changes.now c.requires.changes

pub returns-clause-over : goal.returns-clause-over
returns-clause-over g c = λ tells r m holds.
    let s = c.args.state.now in
    let is = c.in_ok-plan.ensures in
    let at : IsAtPoint r (g.D.Disk.state c.args.disk.now).contents s.dirty.overlay m c.args.number c.get-was.result (slots_or_none (option_copied c.get-left.result)) =
    at_point s c.args.number c.get-was.result (slots_or_none (option_copied c.get-left.result)) c.get-was.ensures.is (found_slots c.get-left.result _ c.get-left.ensures) r m (g.D.Disk.state c.args.disk.now).contents holds in
    record {
      planned = λ placed places new live stand. is.planned tells r m at placed places.0 new live stand;
      metadata_before = is.metadata_before tells r m at;
      metadata = λ new live stand. is.metadata tells r m at new live stand;
      at_most = λ new live stand. is.at_most tells r m at new live stand;
    }

pub returns-in_err-plan-clause-sound : goal.returns-in_err-plan-clause-sound
returns-in_err-plan-clause-sound g c = λ b is tells r m holds.
    let s = c.args.state.now in
    let fault = c.in_err-plan.field-0.0 in
    let named : IsErrOf {T = NodePlan} (Err fault) (Damaged b) = was_error NodePlan c.from_residual.result fault (Damaged b) c.from_residual.ensures.1 is in
    let damage = damage_of {T = NodePlan} (layout_of s.geometry) g.D.Disk.tells (blocks_in (g.D.Disk.state c.plan_node.new.disk).contents) (g.D.Disk.given c.args.disk.now) (g.D.Disk.given c.plan_node.new.disk) fault b named c.in_err-plan.ensures.damaged in
    not_damaged r m (g.D.Disk.state c.args.disk.now) (g.D.Disk.state c.plan_node.new.disk) (g.D.Disk.fixed c.args.disk.now).size s holds c.requires.size (c.in_err-plan.ensures.same tells) c.args.number b c.get-was.result c.get-was.ensures.is
    (c.in_err-plan.ensures.among b named tells) g.D.Disk.tells tells (g.D.Disk.given c.args.disk.now) (g.D.Disk.given c.plan_node.new.disk) damage
