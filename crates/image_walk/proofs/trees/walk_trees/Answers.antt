use Rattle.std.proofs.Common.{◌≤◌, ◌+◌, ◌∙◌, ℕ, List, refl, subst, arith, drop, get_or}
use Rattle.std.specs.List.{flat_map}
use Rattle.std.proofs.lemmas.List.{drop_all, drop_more}
use Rattle.vol_numbers.specs.Geometry.{layout_of}
use Rattle.disk_model.specs.Disk.{State}
use Rattle.disk_model.proofs.Moments.{adds_none, adds_read}
use Rattle.block_format.specs.declared.inode.Inode.{Inode}
use Rattle.block_tree.specs.Tree.{blocks_in}
use Rattle.image_model.specs.Walk.{node_met}
use Rattle.image_walk.specs.Going.{EndsBy}
use Rattle.image_walk.specs.Kept.{node_lasts, all_lasts}
use Rattle.image_walk.specs.Order.{InOrder}
use Rattle.image_walk.specs.Reads.{metadata_count}
use Rattle.image_walk.specs.Trees.{Passes}
use Rattle.image_walk.proofs.TreeLaws.{passes_err, stretch_start, stretch_next, stretch_ends}
use Rattle.image_walk.proofs.NodeLaws.{no_node, nodes_next, lasts_next}
use Rattle.image_walk.proofs.OrderLaws.{order_next}
use Rattle.image_walk.proofs.ReadsLaws.{nodes_counted}
use Rattle.image_walk.proofs.trees.walk_trees.Goals as goal

pub loop-node-init : goal.loop-node-init
loop-node-init g c = record {
  stretch = λ tells. stretch_start _ _ _ _;
  order = c.requires.order;
  long = c.requires.marks;
  reads = λ tells. omega arith;
  same = λ tells. refl;
  moments = λ tells. adds_none _ _;
  fixed = refl;
  faults = refl;
}

pub returns-in_err-walk_node-clause-walked : goal.returns-in_err-walk_node-clause-walked
returns-in_err-walk_node-clause-walked g c tells =
    let lay = layout_of c.args.g.now in
    let read = blocks_in (g.D.Disk.state c.args.disk.now).contents in
    let nodes : List (ℕ × Inode) = c.args.nodes.now in
    let i : ℕ = c.loop-node.node-index in
    passes_err lay c.args.reached.now c.walk_node.new.reached (flat_map (node_met read) nodes) (all_lasts read nodes) c.from_residual.result c.in_err-walk_node.field-0.0 c.from_residual.ensures.1
    (stretch_ends lay c.args.reached.now c.loop-node.reached (flat_map (node_met read) nodes) (flat_map (node_met read) (drop i nodes)) (node_met read (get_or nodes i no_node)) (flat_map (node_met read) (drop (i + 1) nodes))
    (all_lasts read nodes) (all_lasts read (drop i nodes)) c.in_err-walk_node.field-0.0 (c.loop-node.invariant.stretch tells) (nodes_next read nodes i (omega arith))
    (subst (λ (s : State). EndsBy lay c.loop-node.reached.marks (node_met (blocks_in s.contents) (get_or nodes i no_node)) c.in_err-walk_node.field-0.0) (c.loop-node.invariant.same tells) (c.in_err-walk_node.ensures.walked tells)))

pub loop-node-preserved : goal.loop-node-preserved
loop-node-preserved g c =
    let lay = layout_of c.args.g.now in
    let read = blocks_in (g.D.Disk.state c.args.disk.now).contents in
    let nodes : List (ℕ × Inode) = c.args.nodes.now in
    let i : ℕ = c.loop-node.node-index in
    let inv = c.loop-node.invariant in
    record {
      stretch = λ tells.
          stretch_next lay c.args.reached.now c.loop-node.reached c.walk_node.new.reached (flat_map (node_met read) nodes) (flat_map (node_met read) (drop i nodes)) (node_met read (get_or nodes i no_node)) (flat_map (node_met read) (drop (i + 1) nodes))
          (all_lasts read nodes) (all_lasts read (drop i nodes)) (node_lasts read (get_or nodes i no_node)) (all_lasts read (drop (i + 1) nodes))
          (inv.stretch tells) (nodes_next read nodes i (omega arith)) (lasts_next read nodes i (omega arith))
          (subst (λ (s : State). Passes lay c.loop-node.reached c.walk_node.new.reached (node_met (blocks_in s.contents) (get_or nodes i no_node)) (node_lasts (blocks_in s.contents) (get_or nodes i no_node))) (inv.same tells) (c.in_ok-walk_node.ensures.walked tells));
      order = order_next _ (drop i nodes) (drop (i + 1) nodes) (get_or nodes i no_node) _ _ (drop_more nodes i no_node (omega arith)) inv.order c.in_ok-walk_node.ensures.keeps;
      long = c.in_ok-walk_node.ensures.long ∙ inv.long;
      reads = λ tells.
          let below = subst (λ (s : State). (g.D.Disk.given c.walk_node.new.disk).count ≤ (g.D.Disk.given c.loop-node.disk).count + metadata_count (node_met (blocks_in s.contents) (get_or nodes i no_node))) (inv.same tells) (c.in_ok-walk_node.ensures.reads tells) in
          let before = inv.reads tells in
          omega (arith, below, before, nodes_counted read nodes i (omega arith));
      same = λ tells. c.in_ok-walk_node.ensures.same tells ∙ inv.same tells;
      moments = λ tells. adds_read (inv.moments tells) (inv.same tells) (c.in_ok-walk_node.ensures.moments tells);
      fixed = c.in_ok-walk_node.ensures.fixed ∙ inv.fixed;
      faults = c.in_ok-walk_node.ensures.cause ∙ inv.faults;
    }

pub returns-clause-order : goal.returns-clause-order
returns-clause-order g c = subst (λ (left : List (ℕ × Inode)). InOrder (layout_of c.args.g.now).blocks left c.loop-node.reached) (drop_all c.loop-node.node-index c.args.nodes.now (omega arith)) c.loop-node.invariant.order
