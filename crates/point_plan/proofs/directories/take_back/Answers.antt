use Rattle.std.proofs.Common.{ℕ, ◌+◌, Bool, List, drop, Option, sym, ap, ◌∙◌, arith}
use Rattle.std.proofs.lemmas.List.{drop_all}
use Rattle.std.specs.Prelude.{if◌then◌else◌}
use Rattle.held_list.specs.Held.{slots_at}
use Rattle.point_plan.specs.Directories.{taken_back, where_there}
use Rattle.point_plan.specs.Nodes.{planned_of}
use Rattle.point_plan.specs.declared.planned_node.PlannedNode.{PlannedNode}
use Rattle.point_plan.proofs.DirectorySteps.{Slots}
use Rattle.point_plan.proofs.Numbered.{ascend_at, drop_at}
use Rattle.point_plan.proofs.Steps.{step_on}
use Rattle.point_plan.proofs.directories.take_back.Goals as goal

pub loop-node-preserved : goal.loop-node-preserved
loop-node-preserved c =
    let nodes = c.args.nodes.now in
    let i = c.loop-node.node-index in
    let p = c.node-item.result in
    let rest : List PlannedNode = drop (i + 1) nodes in
    let at = ascend_at nodes i p c.requires c.loop-node-test.true c.node-item.is in
    let front = drop_at nodes i p c.loop-node-test.true c.node-item.is in
    let d : ℕ → Slots = slots_at c.loop-node.directories in
    let f : ℕ → Slots = slots_at c.args.fresh.now in
    let less : ℕ → Slots = slots_at c.take_one_back.new.directories in
    λ n.
    step_on (λ (o : Option PlannedNode) (a : Slots × Slots). taken_back o a.0 a.1) at.0 p rest (λ k. (f k, less k)) (λ k. (f k, d k)) at.2
    (c.take_one_back.ensures.own ∙ ap (λ (t : Bool). if t then where_there (f p.number) (d p.number) else d p.number) c.is_directory.ensures)
    (λ m other j. (f m, c.take_one_back.ensures.others m other j)) n
    ∙ ap (λ (ps : List PlannedNode). taken_back (planned_of ps n) (f n) (d n)) (sym front) ∙ c.loop-node.invariant n

pub returns : goal.returns
returns c = λ n.
    let none = drop_all c.loop-node.node-index c.args.nodes.now (omega arith) in
    ap (λ (ps : List PlannedNode). taken_back (planned_of ps n) (slots_at c.args.fresh.now n) (slots_at c.loop-node.directories n)) (sym none) ∙ c.loop-node.invariant n
