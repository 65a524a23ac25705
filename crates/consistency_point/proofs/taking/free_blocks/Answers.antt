use Rattle.std.proofs.Common.{sym, ◌∙◌, arith}
use Rattle.consistency_point.proofs.FreeLaws.{zeros_free, zeros_used}
use Rattle.consistency_point.proofs.taking.free_blocks.Goals as goal
use Rattle.consistency_point.proofs.taking.free_blocks.Goals.{then-get-eq0, else-get-eq0}

pub loop-block-preserved : goal.loop-block-preserved
loop-block-preserved c = elim c.if-get-eq0.branch [
  | then-get-eq0 w ↦ record {
    few = omega (arith, w.free-is, c.loop-block.invariant.few);
    rest = omega (arith, w.free-is, c.loop-block.invariant.rest, zeros_free c.args.counts.now.counts c.loop-block.block c.args.g.now.blocks (omega (arith, c.loop-block-test.true, c.blocks-block-end.ensures)) (sym c.get.ensures ∙ w.if-get-eq0.true));
  }
  | else-get-eq0 w ↦ record {
    few = omega (arith, w.free-is, c.loop-block.invariant.few);
    rest = omega (arith, w.free-is, c.loop-block.invariant.rest, zeros_used c.args.counts.now.counts c.loop-block.block c.args.g.now.blocks (omega (arith, c.loop-block-test.true, c.blocks-block-end.ensures)) (λ e. w.if-get-eq0.false (c.get.ensures ∙ e)));
  }
]
