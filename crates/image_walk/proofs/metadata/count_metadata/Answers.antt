use Rattle.std.proofs.Common.{sym, ◌∙◌, arith}
use Rattle.vol_numbers.specs.Geometry.{layout_of}
use Rattle.image_walk.proofs.MetadataLaws.{marked_here, unmarked_here, marked_end, marked_all}
use Rattle.image_walk.proofs.metadata.count_metadata.Goals as goal
use Rattle.image_walk.proofs.metadata.count_metadata.Goals.{then-is_metadata, else-is_metadata}

pub loop-block-preserved : goal.loop-block-preserved
loop-block-preserved c = elim c.if-is_metadata.branch [
  | then-is_metadata w ↦ record {
    few = omega (arith, w.count-is, c.loop-block.invariant.few);
    rest = omega (arith, w.count-is, c.loop-block.invariant.rest, marked_here c.args.marks.now c.loop-block.block c.args.g.now.blocks (omega (arith, c.loop-block-test.true, c.blocks-block-end.ensures)) (sym c.is_metadata.ensures ∙ w.if-is_metadata.true));
  }
  | else-is_metadata w ↦ record {
    few = omega (arith, w.count-is, c.loop-block.invariant.few);
    rest = omega (arith, w.count-is, c.loop-block.invariant.rest, unmarked_here c.args.marks.now c.loop-block.block c.args.g.now.blocks (omega (arith, c.loop-block-test.true, c.blocks-block-end.ensures)) (sym c.is_metadata.ensures ∙ w.if-is_metadata.false));
  }
]

pub returns : goal.returns
returns c ms says good =
    omega (arith, c.loop-block.invariant.rest, marked_end c.args.marks.now c.loop-block.block c.args.g.now.blocks (omega arith), marked_all (layout_of c.args.g.now) c.args.marks.now ms says good (omega arith))
