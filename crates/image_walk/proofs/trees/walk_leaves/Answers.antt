use Rattle.std.proofs.Common.{◌+◌, ◌*◌, ◌∙◌, ℕ, List, refl, subst, arith, drop, get_or}
use Rattle.vol_numbers.specs.Geometry.{layout_of}
use Rattle.disk_model.specs.Disk.{State}
use Rattle.disk_model.proofs.Moments.{adds_none, adds_read}
use Rattle.block_tree.specs.Tree.{blocks_in}
use Rattle.image_model.specs.Met.{Met}
use Rattle.image_model.specs.Walk.{leaf_met, leaves_met}
use Rattle.image_walk.specs.Going.{EndsBy}
use Rattle.image_walk.specs.Kept.{lasts_of}
use Rattle.image_walk.specs.Trees.{owner_met, Passes}
use Rattle.image_walk.proofs.TreeLaws.{passes_err, stretch_start, stretch_ends, owner_next}
use Rattle.image_walk.proofs.NodeLaws.{leaves_next}
use Rattle.image_walk.proofs.OrderLaws.{keeps_none, keeps_then}
use Rattle.image_walk.proofs.ReadsLaws.{pointers_next}
use Rattle.image_walk.proofs.trees.walk_leaves.Goals as goal

pub returns-in_err-walk_leaf-clause-walked : goal.returns-in_err-walk_leaf-clause-walked
returns-in_err-walk_leaf-clause-walked g c tells =
    let lay = layout_of c.args.g.now in
    let o = c.args.owner.now in
    let read = blocks_in (g.D.Disk.state c.args.disk.now).contents in
    let tops : List ℕ = c.args.tops.now in
    let k : ℕ = c.loop-k.k in
    passes_err lay c.args.reached.now c.walk_leaf.new.reached (leaves_met read (owner_met o) o.blocks 0 tops) _ c.from_residual.result c.in_err-walk_leaf.field-0.0 c.from_residual.ensures.1
    (stretch_ends lay c.args.reached.now c.loop-k.reached _ _ (leaf_met read (owner_met o) o.blocks (1024 * k) (get_or tops k 0)) (leaves_met read (owner_met o) o.blocks (1024 * (k + 1)) (drop (k + 1) tops)) _ _ c.in_err-walk_leaf.field-0.0
    (c.loop-k.invariant.stretch tells) (leaves_next read o k tops (omega arith))
    (subst (λ (s : State). EndsBy lay c.loop-k.reached.marks (leaf_met (blocks_in s.contents) (owner_met o) o.blocks (1024 * k) (get_or tops k 0)) c.in_err-walk_leaf.field-0.0) (c.loop-k.invariant.same tells) (c.in_err-walk_leaf.ensures.walked tells)))

pub loop-k-preserved : goal.loop-k-preserved
loop-k-preserved g c =
    let lay = layout_of c.args.g.now in
    let o = c.args.owner.now in
    let read = blocks_in (g.D.Disk.state c.args.disk.now).contents in
    let tops : List ℕ = c.args.tops.now in
    let k : ℕ = c.loop-k.k in
    let inv = c.loop-k.invariant in
    record {
      stretch = λ tells.
          owner_next lay c.args.reached.now c.loop-k.reached c.walk_leaf.new.reached o.blocks _ _ (leaf_met read (owner_met o) o.blocks (1024 * k) (get_or tops k 0)) (leaves_met read (owner_met o) o.blocks (1024 * (k + 1)) (drop (k + 1) tops))
          (inv.stretch tells) (leaves_next read o k tops (omega arith))
          (subst (λ (s : State). let one : List Met = leaf_met (blocks_in s.contents) (owner_met o) o.blocks (1024 * k) (get_or tops k 0) in Passes lay c.loop-k.reached c.walk_leaf.new.reached one (lasts_of o.blocks one)) (inv.same tells) (c.in_ok-walk_leaf.ensures.walked tells));
      keeps = keeps_then _ _ _ _ _ inv.keeps c.in_ok-walk_leaf.ensures.keeps;
      long = c.in_ok-walk_leaf.ensures.long ∙ inv.long;
      reads = omega (arith, inv.reads, c.in_ok-walk_leaf.ensures.reads, pointers_next tops k (omega arith));
      same = λ tells. c.in_ok-walk_leaf.ensures.same tells ∙ inv.same tells;
      moments = λ tells. adds_read (inv.moments tells) (inv.same tells) (c.in_ok-walk_leaf.ensures.moments tells);
      fixed = c.in_ok-walk_leaf.ensures.fixed ∙ inv.fixed;
      faults = c.in_ok-walk_leaf.ensures.cause ∙ inv.faults;
    }

pub loop-k-init : goal.loop-k-init
loop-k-init g c = record {
  stretch = λ tells. stretch_start _ _ _ _;
  keeps = keeps_none _ _ _;
  long = c.requires.marks;
  reads = omega arith;
  same = λ tells. refl;
  moments = λ tells. adds_none _ _;
  fixed = refl;
  faults = refl;
}
