use Rattle.std.proofs.Common.{drop}
use Rattle.content_model.proofs.Collecting.{Collected}
use Rattle.content_model.proofs.plain_cache.PlainCacheContentCache.kin.Given as goal

abbrev pub invariant-loop-pair : goal.invariant-loop-pair
invariant-loop-pair g l = Collected l.fp l.self.pairs.items (drop l.pair-index l.self.pairs.items) l.out
