use Rattle.std.proofs.Common.{◌≡◌, rules}
use Rattle.std.specs.Ordering.{is_lt}
use Rattle.node_table.specs.Listing.{is_before}
use Rattle.node_table.proofs.OrderLaws.{weak}
use Rattle.std.proofs.lemmas.Fn.{always_returns_same}
use Rattle.node_table.proofs.listing.sort_by_name.Goals as goal

pub returns-clause-rising : goal.returns-clause-rising
returns-clause-rising c = c.in_ok-sort_by.ensures.sorted is_before weak (always_returns_same _ (λ a r. is_lt r ≡ is_before a.0.now a.1.0.now) _ (λ a r f' k. search rules))
