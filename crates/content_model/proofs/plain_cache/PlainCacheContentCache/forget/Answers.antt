use Rattle.std.proofs.Common.{◌≡◌, ◌≤◌, sym, subst, length, arith}
use Rattle.place_words.specs.Different.{Distinct}
use Rattle.volume_model.specs.Cache.{CacheList, cached_blocks, forget}
use Rattle.content_model.proofs.Using.{AtMost8, forget_once, forget_at_most, forget_fewer}
use Rattle.content_model.proofs.plain_cache.PlainCacheContentCache.forget.Goals as goal

pub invariant_of-self : goal.invariant_of-self
invariant_of-self c =
    let was = c.args.self.now in
    let is : forget was.pairs.items c.args.at ≡ c.without_block.new.pairs.items = sym c.without_block.ensures.pairs in
    record {
      reserved = omega (arith, c.without_block.ensures.capacity, was.reserved);
      fits = subst (λ (ps : CacheList). length ps ≤ was.capacity) is (omega (arith, forget_fewer c.args.at was.pairs.items, was.fits));
      distinct = subst (λ (ps : CacheList). Distinct (cached_blocks ps)) is (forget_once c.args.at was.pairs.items was.distinct);
      few_kin = subst (λ (ps : CacheList). AtMost8 ps) is (forget_at_most was.pairs.items c.args.at was.few_kin);
    }
