use Rattle.std.proofs.Common.{ℕ, List, not, rules}
use Rattle.std.specs.Prelude.{nat_eq}
use Rattle.std.proofs.lemmas.Fn.{filter_same}
use Rattle.content_model.proofs.plain_cache.without_block.Goals as goal

pub returns-clause-pairs : goal.returns-clause-pairs
returns-clause-pairs c = filter_same _ (λ (p : List ℕ × ℕ). not (nat_eq p.1 c.args.at)) _ (λ x b f r. search rules) _ _ c.retain.ensures.filtered
