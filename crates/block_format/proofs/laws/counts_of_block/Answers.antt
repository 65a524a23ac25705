use Rattle.std.proofs.Common.{ℕ, List, subst}
use Rattle.block_format.specs.Counts.{SpellsCounts}
use Rattle.block_format.proofs.laws.counts_of_block.Goals as goal

pub returns : goal.returns
returns c = subst (λ (ns : List ℕ). SpellsCounts ns c.args.block.now.bytes) c.read_counts-counts.ensures.counts c.read_counts-counts.ensures.spelled
