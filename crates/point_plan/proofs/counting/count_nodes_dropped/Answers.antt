use Rattle.std.proofs.Common.{◌≡◌, ◌+◌, List, drop, ap, ◌∙◌, arith}
use Rattle.std.proofs.lemmas.List.{drop_all}
use Rattle.std.proofs.lemmas.List.Concat.{flat_map-cons}
use Rattle.place_words.specs.Different.{times}
use Rattle.point_plan.specs.Nodes.{all_dropped}
use Rattle.point_plan.specs.declared.planned_node.PlannedNode.{PlannedNode}
use Rattle.point_plan.proofs.Numbered.{drop_at}
use Rattle.point_plan.proofs.Times.{times_append}
use Rattle.point_plan.proofs.counting.count_nodes_dropped.Goals as goal

pub loop-node-preserved : goal.loop-node-preserved
loop-node-preserved c =
    let nodes = c.args.nodes.now in
    let i = c.loop-node.node-index in
    let p = c.node-item.result in
    let inv = c.loop-node.invariant in
    let one = c.count_dropped.ensures in
    let rest : List PlannedNode = drop (i + 1) nodes in
    record {
      counted = λ b lt some.
          let front : times b (all_dropped (drop i nodes)) ≡ times b p.dropped + times b (all_dropped rest) =
          ap (λ (ps : List PlannedNode). times b (all_dropped ps)) (drop_at nodes i p c.loop-node-test.true c.node-item.is) ∙ ap (times b) (flat_map-cons (λ (q : PlannedNode). q.dropped) p rest) ∙ times_append b p.dropped (all_dropped rest) in
          let same : times b c.as_slice.result.now ≡ times b p.dropped = ap (times b) c.as_slice.ensures in
          let before = inv.counted b lt some in
          let counted = one.counted b (omega (arith, inv.long, lt)) (omega (arith, front, before, some, same)) in
          omega (arith, counted, front, before, same);
      long = one.long ∙ inv.long;
      touched = one.touched ∙ inv.touched;
      kept = λ read homes kept. one.kept read homes (inv.kept read homes kept);
    }

pub returns-clause-counted : goal.returns-clause-counted
returns-clause-counted c = λ b lt some.
    let none = ap (λ (ps : List PlannedNode). times b (all_dropped ps)) (drop_all c.loop-node.node-index c.args.nodes.now (omega arith)) in
    omega (arith, c.loop-node.invariant.counted b lt some, none)
