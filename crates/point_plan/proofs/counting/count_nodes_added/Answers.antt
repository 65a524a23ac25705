use Rattle.std.proofs.Common.{◌≡◌, ◌+◌, List, drop, ap, ◌∙◌, arith}
use Rattle.std.proofs.lemmas.List.{drop_all}
use Rattle.std.proofs.lemmas.List.Concat.{flat_map-cons}
use Rattle.place_words.specs.Different.{times}
use Rattle.point_plan.specs.Nodes.{all_added}
use Rattle.point_plan.specs.declared.planned_node.PlannedNode.{PlannedNode}
use Rattle.point_plan.proofs.Numbered.{drop_at}
use Rattle.point_plan.proofs.Times.{added_less, times_append}
use Rattle.point_plan.proofs.counting.count_nodes_added.Goals as goal

pub loop-node-preserved : goal.loop-node-preserved
loop-node-preserved c =
    let nodes = c.args.nodes.now in
    let i = c.loop-node.node-index in
    let p = c.node-item.result in
    let inv = c.loop-node.invariant in
    let one = c.count_added.ensures in
    let rest : List PlannedNode = drop (i + 1) nodes in
    record {
      counted = λ b lt fits.
          let front : times b (all_added (drop i nodes)) ≡ times b p.added + times b (all_added rest) =
          ap (λ (ps : List PlannedNode). times b (all_added ps)) (drop_at nodes i p c.loop-node-test.true c.node-item.is) ∙ ap (times b) (flat_map-cons (λ (q : PlannedNode). q.added) p rest) ∙ times_append b p.added (all_added rest) in
          let same : times b c.as_slice.result.now ≡ times b p.added = ap (times b) c.as_slice.ensures in
          let before = inv.counted b lt fits in
          let counted = one.counted b (omega (arith, inv.long, lt)) (λ some. let room = fits (omega (arith, front, some, same, added_less b i nodes)) in omega (arith, front, before, room, same)) in
          omega (arith, counted, front, before, same);
      long = one.long ∙ inv.long;
      touched = one.touched ∙ inv.touched;
      kept = λ read homes kept. one.kept read homes (inv.kept read homes kept);
    }

pub returns-clause-counted : goal.returns-clause-counted
returns-clause-counted c = λ b lt fits.
    let none = ap (λ (ps : List PlannedNode). times b (all_added ps)) (drop_all c.loop-node.node-index c.args.nodes.now (omega arith)) in
    omega (arith, c.loop-node.invariant.counted b lt fits, none)
