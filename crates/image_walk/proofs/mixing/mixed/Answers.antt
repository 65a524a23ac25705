use Rattle.std.proofs.Common.{◌≡◌, ◌-◌, ◌∙◌, ap, sym, arith}
use Rattle.vol_numbers.specs.Geometry.{layout_of}
use Rattle.image_model.specs.Findings.{mixed_finding}
use Rattle.image_walk.proofs.MixedLaws.{mixed_fine, mixed_here, mixed_end}
use Rattle.image_walk.proofs.mixing.mixed.Goals as goal

pub loop-block-init : goal.loop-block-init
loop-block-init c = record { rest = λ ms says. let e : (layout_of c.args.g.now).blocks - 0 ≡ (layout_of c.args.g.now).blocks = omega arith in ap (mixed_finding ms 0) e }

pub returns-then-is_mixed : goal.returns-then-is_mixed
returns-then-is_mixed c ms says =
    sym (mixed_here c.args.marks.now ms says c.loop-block.block (layout_of c.args.g.now).blocks (omega arith) (sym c.is_mixed.ensures ∙ c.if-is_mixed.true)) ∙ c.loop-block.invariant.rest ms says

pub loop-block-preserved : goal.loop-block-preserved
loop-block-preserved c = record {
  rest = λ ms says. sym (mixed_fine c.args.marks.now ms says c.loop-block.block (layout_of c.args.g.now).blocks (omega arith) (sym c.is_mixed.ensures ∙ c.if-is_mixed.false)) ∙ c.loop-block.invariant.rest ms says;
}

pub returns : goal.returns
returns c ms says = sym (mixed_end ms c.loop-block.block (layout_of c.args.g.now).blocks (omega arith)) ∙ c.loop-block.invariant.rest ms says
