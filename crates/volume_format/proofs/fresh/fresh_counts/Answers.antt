use Rattle.std.proofs.Common.{◌∙◌, ℕ, ap, arith}
use Rattle.vol_numbers.specs.Geometry.{layout_of}
use Rattle.block_tree.specs.Planned.{pointers_of}
use Rattle.image_model.specs.Fresh.{fresh_count}
use Rattle.volume_format.proofs.BlockLemmas.{counts-each}
use Rattle.volume_format.proofs.fresh.fresh_counts.Goals as goal

pub returns : goal.returns
returns c =
    let g = layout_of c.args.g.now in
    counts-each (fresh_count g) c.args.first c.loop-k.count-items (λ k lt. c.loop-k.invariant k (omega (arith, c.loop-k-test.array_long)))
    ∙ ap (λ (n : ℕ). pointers_of (fresh_count g) c.args.first n) c.loop-k-test.array_long
