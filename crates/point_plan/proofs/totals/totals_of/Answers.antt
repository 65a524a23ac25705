use Rattle.std.proofs.Common.{◌≡◌, ◌+◌, List, drop, ap, ◌∙◌, arith}
use Rattle.std.proofs.lemmas.List.{drop_all}
use Rattle.std.proofs.lemmas.List.Sums.{sum_by-cons}
use Rattle.point_plan.specs.Gathered.{metadata_given, metadata_had}
use Rattle.point_plan.specs.declared.planned_node.PlannedNode.{PlannedNode}
use Rattle.point_plan.proofs.Numbered.{drop_at}
use Rattle.point_plan.proofs.TotalLaws.{few_nodes}
use Rattle.point_plan.proofs.totals.totals_of.Goals as goal

pub overflow_add-had : goal.overflow_add-had
overflow_add-had c =
    let few = few_nodes c.args.nodes.now c.requires in
    omega (arith, few, c.loop-node.invariant.had_most)

pub overflow_add-given : goal.overflow_add-given
overflow_add-given c =
    let few = few_nodes c.args.nodes.now c.requires in
    omega (arith, few, c.loop-node.invariant.given_most)

pub loop-node-preserved : goal.loop-node-preserved
loop-node-preserved c =
    let nodes = c.args.nodes.now in
    let i = c.loop-node.node-index in
    let p = c.node-item.result in
    let rest : List PlannedNode = drop (i + 1) nodes in
    let front = drop_at nodes i p c.loop-node-test.true c.node-item.is in
    let inv = c.loop-node.invariant in
    let had : metadata_had (drop i nodes) ≡ p.metadata_before + metadata_had rest = ap (λ (ps : List PlannedNode). metadata_had ps) front ∙ sum_by-cons (λ (q : PlannedNode). q.metadata_before) p rest in
    let given : metadata_given (drop i nodes) ≡ p.metadata + metadata_given rest = ap (λ (ps : List PlannedNode). metadata_given ps) front ∙ sum_by-cons (λ (q : PlannedNode). q.metadata) p rest in
    record {
      had = omega (arith, had, inv.had);
      given = omega (arith, given, inv.given);
      had_most = omega (arith, inv.had_most);
      given_most = omega (arith, inv.given_most);
    }

pub returns-clause-had : goal.returns-clause-had
returns-clause-had c =
    let none = ap (λ (ps : List PlannedNode). metadata_had ps) (drop_all c.loop-node.node-index c.args.nodes.now (omega arith)) in
    omega (arith, none, c.loop-node.invariant.had)

pub returns-clause-given : goal.returns-clause-given
returns-clause-given c =
    let none = ap (λ (ps : List PlannedNode). metadata_given ps) (drop_all c.loop-node.node-index c.args.nodes.now (omega arith)) in
    omega (arith, none, c.loop-node.invariant.given)

pub returns-clause-had_small : goal.returns-clause-had_small
returns-clause-had_small c =
    let few = few_nodes c.args.nodes.now c.requires in
    omega (arith, few, c.loop-node.invariant.had_most)

pub returns-clause-given_small : goal.returns-clause-given_small
returns-clause-given_small c =
    let few = few_nodes c.args.nodes.now c.requires in
    omega (arith, few, c.loop-node.invariant.given_most)
