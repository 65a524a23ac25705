use Rattle.std.proofs.Common.{rules}
use Rattle.std.proofs.lemmas.Fn.{always_returns_same}
use Rattle.held_list.specs.declared.held.Held.{Held}
use Rattle.held_list.proofs.Halves.{place_within, place_found, gap_found}
use Rattle.held_list.proofs.places.place_of.Goals as goal

pub returns-clause-within : goal.returns-clause-within
returns-clause-within c = place_within c.args.held.now c.binary_search_by_key.result c.binary_search_by_key.ensures.bound

pub returns-clause-found : goal.returns-clause-found
returns-clause-found c =
    place_found c.args.number c.args.held.now c.binary_search_by_key.result
    (c.binary_search_by_key.ensures.position (λ (h : Held). h.number) (always_returns_same _ _ _ (λ a r f k. search rules)))

pub returns-clause-gap : goal.returns-clause-gap
returns-clause-gap c =
    gap_found c.args.number c.args.held.now c.binary_search_by_key.result c.requires c.binary_search_by_key.ensures.bound
    (c.binary_search_by_key.ensures.position (λ (h : Held). h.number) (always_returns_same _ _ _ (λ a r f k. search rules)))
