use Rattle.std.proofs.Common.{◌≡◌, ◌∙◌, ◌+◌, ◌-◌, ◌*◌, ℕ, ap, take, drop, arith}
use Rattle.count_pairs.proofs.count_block.block_of.Goals as goal

pub returns : goal.returns
returns c =
    let at : ℕ = 1024 * c.args.i in
    let long : at + 1024 - at ≡ 1024 = omega arith in
    c.write_counts.ensures.reads_back ∙ ap (λ (n : ℕ). take n (drop at c.args.counts.now)) long
