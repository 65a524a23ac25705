use Rattle.std.proofs.Common.{◌∙◌, subst, sym, refl, arith}
use Rattle.vol_numbers.specs.Geometry.{layout_of}
use Rattle.disk_model.specs.Disk.{State}
use Rattle.disk_model.proofs.Moments.{adds_none}
use Rattle.volume_format.specs.Formatting.{KeepsSelector}
use Rattle.volume_format.proofs.FormatLemmas.{adds_keeps, counts_keep, with_counts-zero, with_counts-next}
use Rattle.volume_format.proofs.formatting.write_counts.Goals as goal

pub loop-i-init : goal.loop-i-init
loop-i-init g c = record {
  state = λ tells. with_counts-zero (layout_of c.args.g.now) (g.D.Disk.state c.args.disk.now);
  moments = λ tells. adds_none _ (KeepsSelector (g.D.Disk.state c.args.disk.now));
  fixed = λ i. g.D.Disk.fixed c.args.disk.now;
  faults = refl;
}

pub returns-in_err-write_block-clause-moments : goal.returns-in_err-write_block-clause-moments
returns-in_err-write_block-clause-moments g c tells =
    let so_far = c.loop-i.invariant in
    let start : State = g.D.Disk.state c.args.disk.now in
    adds_keeps (so_far.moments tells) (subst (KeepsSelector start) (sym (so_far.state tells)) (counts_keep (layout_of c.args.g.now) c.loop-i.i start)) (omega arith) c.write_block.ensures.moments

pub loop-i-preserved : goal.loop-i-preserved
loop-i-preserved g c =
    let so_far = c.loop-i.invariant in
    let layout = layout_of c.args.g.now in
    let start : State = g.D.Disk.state c.args.disk.now in
    record {
      state = λ tells. with_counts-next layout c.loop-i.i start _ _ _ (so_far.state tells) c.count_block.ensures (c.in_ok-write_block.ensures.written tells);
      moments = λ tells. adds_keeps (so_far.moments tells) (subst (KeepsSelector start) (sym (so_far.state tells)) (counts_keep layout c.loop-i.i start)) (omega arith) c.write_block.ensures.moments;
      fixed = c.write_block.ensures.fixed ∙ so_far.fixed;
      faults = c.in_ok-write_block.ensures.cause ∙ so_far.faults;
    }
