use Rattle.std.proofs.Common.{◌≡◌, ◌+◌, ◌<◌, ℕ, get_or}
use Rattle.vol_numbers.specs.Geometry.{layout_of}
use Rattle.image_model.specs.Fresh.{fresh_count}
use Rattle.volume_format.proofs.fresh.fresh_counts.Given as goal

abbrev pub invariant-loop-k : goal.invariant-loop-k
invariant-loop-k l = (k : ℕ) → k < l.k → get_or l.count-items k 0 ≡ fresh_count (layout_of l.g) (l.first + k)
