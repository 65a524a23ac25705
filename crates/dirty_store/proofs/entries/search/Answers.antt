use Rattle.std.proofs.Common.{rules}
use Rattle.std.proofs.lemmas.Fn.{always_returns_same}
use Rattle.volume_model.specs.Places.{spot_cmp}
use Rattle.dirty_store.proofs.Halves.{place_found, gap_found}
use Rattle.dirty_store.proofs.entries.search.Goals as goal

pub returns-clause-found : goal.returns-clause-found
returns-clause-found g c =
    place_found c.args.spot c.args.entries.now c.binary_search_by.result c.binary_search_by.ensures.bound
    (c.binary_search_by.ensures.position (λ e. spot_cmp e.0 c.args.spot) (always_returns_same _ _ _ (λ a r f k. search rules)))

pub returns-clause-gap : goal.returns-clause-gap
returns-clause-gap g c =
    gap_found c.args.spot c.args.entries.now c.binary_search_by.result c.requires c.binary_search_by.ensures.bound
    (c.binary_search_by.ensures.position (λ e. spot_cmp e.0 c.args.spot) (always_returns_same _ _ _ (λ a r f k. search rules)))
