use Rattle.content_model.proofs.Order.{place_some}
use Rattle.content_model.proofs.plain_cache.PlainCacheContentCache.has.Goals as goal

pub returns-clause-found : goal.returns-clause-found
returns-clause-found g c =
    let same = place_some c.args.at c.args.self.now.pairs.items in
    cc
