use Rattle.std.proofs.Common.{◌≡◌, ◌+◌, ◌*◌, ◌∙◌, ◌++◌, ℕ, List, ap, refl, subst, arith, drop, get_or}
use Rattle.std.proofs.lemmas.List.{drop_all}
use Rattle.vol_numbers.specs.Geometry.{layout_of}
use Rattle.disk_model.specs.Disk.{State}
use Rattle.disk_model.proofs.Moments.{adds_none, adds_read}
use Rattle.block_tree.specs.Tree.{blocks_in}
use Rattle.image_model.specs.Walk.{blocks_met, nodes_of}
use Rattle.image_walk.specs.Going.{Goes, EndsBy}
use Rattle.image_walk.specs.Inodes.{block_at, inodes_at}
use Rattle.image_walk.proofs.GoingLaws.{walks_err, part_start, part_next, part_ends, part_end}
use Rattle.image_walk.proofs.InodeLaws.{blocks_next, gathered_none, gathered_next, gathered_all}
use Rattle.image_walk.specs.Order.{NodesGrow}
use Rattle.image_walk.proofs.OrderLaws.{nodes_none, nodes_then}
use Rattle.image_walk.proofs.ReadsLaws.{pointers_next}
use Rattle.image_walk.proofs.inodes.walk_inodes.Goals as goal

pub loop-k-init : goal.loop-k-init
loop-k-init g c = record {
  part = λ tells marks. part_start _ _ _;
  gathered = λ tells. gathered_none _ _ _;
  grows = nodes_none _ _ _;
  reads = omega arith;
  same = λ tells. refl;
  moments = λ tells. adds_none _ _;
  fixed = refl;
  faults = refl;
}

pub returns-in_err-walk_block-clause-walked : goal.returns-in_err-walk_block-clause-walked
returns-in_err-walk_block-clause-walked g c tells marks =
    let lay = layout_of c.args.g.now in
    let read = blocks_in (g.D.Disk.state c.args.disk.now).contents in
    let es : List ℕ = c.args.entries.now in
    let k : ℕ = c.loop-k.k in
    walks_err lay marks marks (blocks_met read 0 es) c.from_residual.result c.in_err-walk_block.field-0.0 c.from_residual.ensures.1
    (part_ends lay marks marks (blocks_met read 0 es) (blocks_met read (64 * k) (drop k es)) (block_at read (64 * k) (get_or es k 0)) (blocks_met read (64 * (k + 1)) (drop (k + 1) es)) c.in_err-walk_block.field-0.0
    (c.loop-k.invariant.part tells marks) (blocks_next read k es (omega arith))
    (subst (λ (s : State). EndsBy lay marks (block_at (blocks_in s.contents) (64 * k) (get_or es k 0)) c.in_err-walk_block.field-0.0) (c.loop-k.invariant.same tells) (c.in_err-walk_block.ensures.walked tells marks)))

pub loop-k-preserved : goal.loop-k-preserved
loop-k-preserved g c =
    let lay = layout_of c.args.g.now in
    let read = blocks_in (g.D.Disk.state c.args.disk.now).contents in
    let es : List ℕ = c.args.entries.now in
    let k : ℕ = c.loop-k.k in
    let inv = c.loop-k.invariant in
    record {
      part = λ tells marks.
          part_next lay marks marks marks (blocks_met read 0 es) (blocks_met read (64 * k) (drop k es)) (block_at read (64 * k) (get_or es k 0)) (blocks_met read (64 * (k + 1)) (drop (k + 1) es))
          (inv.part tells marks) (blocks_next read k es (omega arith))
          (subst (λ (s : State). Goes lay marks marks (block_at (blocks_in s.contents) (64 * k) (get_or es k 0))) (inv.same tells) (c.in_ok-walk_block.ensures.walked tells marks));
      gathered = λ tells.
          gathered_next read es k c.args.nodes.now.items c.loop-k.nodes.items c.walk_block.new.nodes.items (omega arith) (inv.gathered tells)
          (subst (λ (s : State). c.walk_block.new.nodes.items ≡ c.loop-k.nodes.items ++ nodes_of (inodes_at (blocks_in s.contents) (64 * k) (get_or es k 0))) (inv.same tells) (c.in_ok-walk_block.ensures.nodes tells));
      grows = nodes_then 0 (64 * k) (64 * (k + 1)) _ _ _ (omega arith) (omega arith) inv.grows
          (subst (λ (high : ℕ). NodesGrow (64 * k) high c.loop-k.nodes.items c.walk_block.new.nodes.items) (omega arith) c.in_ok-walk_block.ensures.grows);
      reads = omega (arith, inv.reads, c.in_ok-walk_block.ensures.reads, pointers_next es k (omega arith));
      same = λ tells. c.in_ok-walk_block.ensures.same tells ∙ inv.same tells;
      moments = λ tells. adds_read (inv.moments tells) (inv.same tells) (c.in_ok-walk_block.ensures.moments tells);
      fixed = c.in_ok-walk_block.ensures.fixed ∙ inv.fixed;
      faults = c.in_ok-walk_block.ensures.cause ∙ inv.faults;
    }

pub returns-clause-nodes : goal.returns-clause-nodes
returns-clause-nodes g c tells = gathered_all (blocks_in (g.D.Disk.state c.args.disk.now).contents) c.args.entries.now c.loop-k.k c.args.nodes.now.items c.loop-k.nodes.items (omega arith) (c.loop-k.invariant.gathered tells)

pub returns-clause-walked : goal.returns-clause-walked
returns-clause-walked g c tells marks =
    let read = blocks_in (g.D.Disk.state c.args.disk.now).contents in
    let es : List ℕ = c.args.entries.now in
    let k : ℕ = c.loop-k.k in
    part_end (layout_of c.args.g.now) marks marks (blocks_met read 0 es) (blocks_met read (64 * k) (drop k es)) (c.loop-k.invariant.part tells marks) (ap (blocks_met read (64 * k)) (drop_all k es (omega arith)))

pub returns-clause-grows : goal.returns-clause-grows
returns-clause-grows g c = let k : ℕ = c.loop-k.k in subst (λ (high : ℕ). NodesGrow 0 high c.args.nodes.now.items c.loop-k.nodes.items) (omega arith) c.loop-k.invariant.grows
