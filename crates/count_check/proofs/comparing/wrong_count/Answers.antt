use Rattle.std.proofs.Common.{◌≡◌, ◌*◌, get_or, sym, ap, ◌∙◌, arith}
use Rattle.vol_numbers.specs.Geometry.{layout_of}
use Rattle.vol_numbers.specs.Layout.{count_blocks}
use Rattle.image_walk.specs.declared.marks.Mark.{Mark}
use Rattle.image_walk.specs.Marks.{mark_of}
use Rattle.count_check.proofs.CountLaws.{count_fine, count_wrong, next_fine}
use Rattle.count_check.proofs.comparing.wrong_count.Goals as goal

pub returns-then-kept-counted-clause-finding : goal.returns-then-kept-counted-clause-finding
returns-then-kept-counted-clause-finding c ms says =
    let n = 1024 * count_blocks (layout_of c.args.g.now) in
    let counted : c.get-counted.result.pointers ≡ (mark_of c.args.marks.now c.loop-block.block).pointers = ap (λ (m : Mark). m.pointers) c.get-counted.ensures in
    sym (count_wrong c.args.marks.now ms says c.args.counts.now.counts c.loop-block.block n (omega arith) c.get-kept.result c.get-counted.result.pointers c.get-kept.ensures counted c.if-kept-counted.true)
    ∙ c.loop-block.invariant.rest ms says

pub loop-block-preserved : goal.loop-block-preserved
loop-block-preserved c =
    let n = 1024 * count_blocks (layout_of c.args.g.now) in
    let same : get_or c.args.counts.now.counts c.loop-block.block 0 ≡ (mark_of c.args.marks.now c.loop-block.block).pointers = sym c.get-kept.ensures ∙ c.if-kept-counted.false ∙ ap (λ (m : Mark). m.pointers) c.get-counted.ensures in
    record {
      rest = λ ms says. sym (count_fine c.args.marks.now ms says c.args.counts.now.counts c.loop-block.block n (omega arith) same) ∙ c.loop-block.invariant.rest ms says;
      fine = next_fine c.args.marks.now c.args.counts.now.counts c.loop-block.block c.loop-block.invariant.fine same;
    }
