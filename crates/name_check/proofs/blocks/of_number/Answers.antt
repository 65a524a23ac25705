use Rattle.std.proofs.Common.{◌<◌, ◌≤◌, ◌+◌, ℕ, length, subst}
use Rattle.image_walk.specs.Blocks.{number_at}
use Rattle.name_check.proofs.RunLaws.{run_from}
use Rattle.name_check.proofs.blocks.of_number.Goals as goal

pub returns : goal.returns
returns c =
    let blocks = c.args.blocks.now in
    run_from blocks c.args.number c.below-from.result c.below-to.result c.below-to.ensures.within
    (subst (λ (n : ℕ). (k : ℕ) → k < c.below-from.result → number_at blocks k < n) c.from.ensures c.below-from.ensures.before)
    (subst (λ (n : ℕ). (k : ℕ) → c.below-from.result ≤ k → k < length blocks → n ≤ number_at blocks k) c.from.ensures c.below-from.ensures.behind)
    (subst (λ (n : ℕ). (k : ℕ) → k < c.below-to.result → number_at blocks k < n + 1) c.from-2.ensures c.below-to.ensures.before)
    (subst (λ (n : ℕ). (k : ℕ) → c.below-to.result ≤ k → k < length blocks → n + 1 ≤ number_at blocks k) c.from-2.ensures c.below-to.ensures.behind)
    c.below-from.ensures.within
