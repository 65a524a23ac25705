use Rattle.std.proofs.Common.{◌+◌, List, drop, sym, ap, ◌∙◌, arith}
use Rattle.std.proofs.lemmas.List.{drop_all}
use Rattle.inode_file.specs.Inodes.{InodeTable, inode_of}
use Rattle.point_plan.specs.Nodes.{planned_of, was_or}
use Rattle.point_plan.specs.declared.planned_node.PlannedNode.{PlannedNode}
use Rattle.point_plan.proofs.Numbered.{ascend_at, drop_at, step_old}
use Rattle.point_plan.proofs.renewing.set_old.Goals as goal

pub set-requires-clause-some : goal.set-requires-clause-some
set-requires-clause-some c =
    let at = ascend_at c.args.nodes.now c.loop-node.node-index c.node-item.result c.requires.ascend c.loop-node-test.true c.node-item.is in
    omega (arith, at.1, at.2.0)

pub set-requires-clause-at_most : goal.set-requires-clause-at_most
set-requires-clause-at_most c =
    let at = ascend_at c.args.nodes.now c.loop-node.node-index c.node-item.result c.requires.ascend c.loop-node-test.true c.node-item.is in
    omega (arith, at.2.1)

pub loop-node-preserved : goal.loop-node-preserved
loop-node-preserved c =
    let nodes = c.args.nodes.now in
    let i = c.loop-node.node-index in
    let p = c.node-item.result in
    let rest : List PlannedNode = drop (i + 1) nodes in
    let at = ascend_at nodes i p c.requires.ascend c.loop-node-test.true c.node-item.is in
    let front = drop_at nodes i p c.loop-node-test.true c.node-item.is in
    let is : InodeTable = c.set.new.self in
    let was : InodeTable = c.loop-node.inodes in
    record {
      set = λ n.
          step_old at.0 p rest (inode_of is.inodes) (inode_of was.inodes) at.2 c.set.ensures.put c.set.ensures.others n
          ∙ ap (λ (ps : List PlannedNode). was_or (planned_of ps n) (inode_of was.inodes n)) (sym front)
          ∙ c.loop-node.invariant.set n;
      whole = c.set.ensures.whole;
      rest = c.set.ensures.rest ∙ ap (λ (t : InodeTable). record t { inodes = is.inodes }) c.loop-node.invariant.rest;
    }

pub returns-clause-set : goal.returns-clause-set
returns-clause-set c = λ n.
    let none = drop_all c.loop-node.node-index c.args.nodes.now (omega arith) in
    ap (λ (ps : List PlannedNode). was_or (planned_of ps n) (inode_of c.loop-node.inodes.inodes n)) (sym none) ∙ c.loop-node.invariant.set n
