use Rattle.std.proofs.Common.{◌≡◌, false, drop}
use Rattle.std.specs.List.{list_any}
use Rattle.volume_model.specs.Cache.{has_fingerprint}
use Rattle.content_model.proofs.plain_cache.last_kin.Given as goal

abbrev pub invariant-loop-i : goal.invariant-loop-i
invariant-loop-i l = list_any (has_fingerprint l.fp) (drop l.i l.pairs) ≡ false
