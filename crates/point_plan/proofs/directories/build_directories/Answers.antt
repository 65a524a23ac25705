use Rattle.std.proofs.Common.{ℕ, ◌+◌, List, drop, sym, ap, ◌∙◌}
use Rattle.held_list.specs.Held.{slots_at}
use Rattle.point_plan.specs.Directories.{built_or, slots_then}
use Rattle.point_plan.specs.Nodes.{planned_of}
use Rattle.point_plan.specs.declared.planned_node.PlannedNode.{PlannedNode}
use Rattle.point_plan.proofs.DirectorySteps.{Slots}
use Rattle.point_plan.proofs.Numbered.{ascend_at, drop_at}
use Rattle.point_plan.proofs.Steps.{step_on}
use Rattle.point_plan.proofs.directories.build_directories.Goals as goal

pub loop-node-preserved : goal.loop-node-preserved
loop-node-preserved c =
    let nodes = c.args.nodes.now in
    let i = c.loop-node.node-index in
    let p = c.node-item.result in
    let rest : List PlannedNode = drop (i + 1) nodes in
    let at = ascend_at nodes i p c.requires.ascend c.loop-node-test.true c.node-item.is in
    let front = drop_at nodes i p c.loop-node-test.true c.node-item.is in
    let slots = slots_then c.args.directories.now c.args.dirty.now.overlay in
    let f : ℕ → Slots = slots_at c.loop-node.fresh in
    let more : ℕ → Slots = slots_at c.build_one.new.fresh in
    λ n.
    step_on (built_or slots) at.0 p rest more f at.2 c.in_ok-build_one.ensures.own c.in_ok-build_one.ensures.others n
    ∙ ap (λ (ps : List PlannedNode). built_or slots (planned_of ps n) (f n)) (sym front) ∙ c.loop-node.invariant n
