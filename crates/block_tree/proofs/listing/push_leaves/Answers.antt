use Rattle.std.proofs.Common.{◌∙◌, ◌++◌, List, ℕ, ap, subst, get_or, arith}
use Rattle.disk_model.specs.Disk.{State}
use Rattle.disk_model.proofs.Moments.{adds_read}
use Rattle.block_tree.specs.Tree.{blocks_in, index_at, nonzero}
use Rattle.block_tree.specs.Parts.{SameEntries}
use Rattle.block_tree.specs.Causes.{IsBlockOf, IsBlockAmong}
use Rattle.block_tree.proofs.DamageLaws.{look_passed}
use Rattle.block_tree.proofs.ListingLaws.{leaves_more}
use Rattle.block_tree.proofs.listing.push_leaves.Goals as goal

pub loop-i-preserved : goal.loop-i-preserved
loop-i-preserved g c =
    let inv = c.loop-i.invariant in
    let read = blocks_in (g.D.Disk.state c.args.disk.now).contents in
    let leaf : ℕ = get_or c.args.tops.now.ptrs c.loop-i.i 0 in
    record {
      pushed = λ tells.
          let same = subst (λ (s : State). SameEntries (index_at (blocks_in s.contents) leaf) c.in_ok-index.index.ptrs) (inv.same tells) (c.in_ok-index.ensures.entries tells) in
          c.in_ok-push_all.ensures
          ∙ (ap (λ (xs : List ℕ). xs ++ nonzero c.in_ok-index.index.ptrs) (inv.pushed tells)
          ∙ leaves_more read c.args.out.now.items c.args.tops.now.ptrs c.loop-i.i c.in_ok-index.index.ptrs (omega arith) same.some);
      same = λ tells. c.in_ok-index.ensures.same tells ∙ inv.same tells;
      moments = λ tells. adds_read (inv.moments tells) (inv.same tells) (c.in_ok-index.ensures.moments tells);
      fixed = c.in_ok-index.ensures.fixed ∙ inv.fixed;
      given = omega (arith, c.in_ok-index.ensures.damaged, inv.given);
      faults = c.in_ok-index.ensures.cause ∙ inv.faults;
    }

pub returns-in_err-index-clause-read : goal.returns-in_err-index-clause-read
returns-in_err-index-clause-read g c =
    let leaf : ℕ = get_or c.args.tops.now.ptrs c.loop-i.i 0 in
    look_passed c.from_residual.result c.in_err-index.field-0.0 (IsBlockOf leaf) (IsBlockAmong 0 c.args.tops.now.ptrs) c.from_residual.ensures.1 c.in_err-index.ensures.read
    (λ b of. record { at = c.loop-i.i; from = omega arith; below = omega arith; block = of })
