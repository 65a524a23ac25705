use Rattle.std.proofs.Common.{◌≤◌, sym, subst, length, arith}
use Rattle.place_words.specs.Different.{Distinct}
use Rattle.volume_model.specs.Cache.{CacheList, cached_blocks}
use Rattle.volume_model.proofs.Cached.{use_keeps}
use Rattle.content_model.proofs.Using.{AtMost8, use_at_most}
use Rattle.content_model.proofs.plain_cache.PlainCacheContentCache.use_block.Goals as goal

pub invariant_of-self : goal.invariant_of-self
invariant_of-self c =
    let was = c.args.self.now in
    let used = sym c.use_pair.ensures.pairs in
    record {
      reserved = omega (arith, c.use_pair.ensures.capacity, was.reserved);
      fits = subst (λ (ps : CacheList). length ps ≤ was.capacity) used (use_keeps.at_most was.capacity was.pairs.items c.args.fp.now c.args.at);
      distinct = subst (λ (ps : CacheList). Distinct (cached_blocks ps)) used (use_keeps.once was.capacity was.pairs.items c.args.fp.now c.args.at was.distinct);
      few_kin = subst (λ (ps : CacheList). AtMost8 ps) used (use_at_most was.capacity c.args.fp.now c.args.at was.pairs.items was.few_kin);
    }
