use Rattle.std.proofs.Common.{◌≡◌, ◌+◌, ◌<◌, length, slice_index_or, ℕ, List, ◌∷◌, drop, true, false, sym, ap, subst, ◌∙◌, add-one}
use Rattle.std.proofs.Math.Seq.{drop-cons}
use Rattle.volume_model.specs.Cache.{has_fingerprint, CacheList}
use Rattle.content_model.specs.Kin.{included}
use Rattle.content_model.proofs.Collecting.{Collected, one_more, not_one}
use Rattle.content_model.proofs.plain_cache.PlainCacheContentCache.kin.Goals as goal
use Rattle.content_model.proofs.plain_cache.PlainCacheContentCache.kin.Goals.{then-eq, else-eq}

pub loop-pair-preserved : goal.loop-pair-preserved
loop-pair-preserved g c =
    let pairs = c.args.self.now.pairs.items in
    let i = c.loop-pair.pair-index in
    let x = c.pair-item.result in
    let same : c.deref-pair-items.result.now ≡ pairs = c.deref-pair-items.ensures.value in
    let less = subst (λ (ps : CacheList). i < length ps) same c.loop-pair-test.true in
    let read = subst (λ (ps : CacheList). x ≡ slice_index_or ps i x) same c.pair-item.is in
    let split : drop i pairs ≡ (x ∷ drop (i + 1) pairs) = rw add-one (drop-cons pairs i x less) ∙ ap (λ (p : List ℕ × ℕ). p ∷ drop (i + 1) pairs) (sym read) in
    let so_far = subst (λ (rest : CacheList). Collected c.args.fp.now pairs rest c.loop-pair.out) split c.loop-pair.invariant in
    elim c.if-eq.branch [
      | then-eq w ↦
          (let own : has_fingerprint c.args.fp.now x ≡ true = cc in
          let more = one_more c.args.fp.now pairs (drop (i + 1) pairs) x c.loop-pair.out so_far own in
          let out : included x.1 c.loop-pair.out ≡ c.if-eq.out = cc in
          subst (λ (blocks : List ℕ). Collected c.args.fp.now pairs (drop (i + 1) pairs) blocks) out more)
      | else-eq w ↦
          (let other : has_fingerprint c.args.fp.now x ≡ false = cc in
          let more = not_one c.args.fp.now pairs (drop (i + 1) pairs) x c.loop-pair.out so_far other in
          subst (λ (blocks : List ℕ). Collected c.args.fp.now pairs (drop (i + 1) pairs) blocks) (sym w.out-is) more)
    ]
