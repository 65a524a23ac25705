-- What holds of cache lists that uses make.
use Rattle.std.specs.Prelude.{ℕ, ◌≤◌, List, [], length}
use Rattle.place_words.specs.Different.{Distinct}
use Rattle.volume_model.specs.Cache.{CacheList, cached_blocks, kin, forget, use_all}
use Rattle.volume_model.specs.Machine.{Machine, Rules}
use Rattle.volume_model.specs.Places.{Places}
use Rattle.volume_model.specs.Point.{cache_after}

-- each block stands in it once, and no more than its capacity
pub record IsCacheList (capacity : ℕ) (pairs : CacheList) : Type 0 where
  pub once : Distinct (cached_blocks pairs)
  pub at_most : length pairs ≤ capacity

-- The empty list is a cache list. So is what uses and a point make of one, and what is left of one without a block.
pub record StaysACacheList : Type 0 where
  pub at_first : (capacity : ℕ) → IsCacheList capacity []
  pub used : (capacity : ℕ) (pairs uses : CacheList) → IsCacheList capacity pairs → IsCacheList capacity (use_all capacity pairs uses)
  pub forgets : (capacity : ℕ) (pairs : CacheList) (block : ℕ) → IsCacheList capacity pairs → IsCacheList capacity (forget pairs block)
  pub after_point : (r : Rules) (m : Machine) (placed : Places) → IsCacheList r.capacity m.cache → IsCacheList r.capacity (cache_after r m placed)

-- no fingerprint has more than eight pairs
abbrev pub HasFewKin : CacheList → Type 0
HasFewKin pairs = (fingerprint : List ℕ) → length (kin pairs fingerprint) ≤ 8

-- No fingerprint has more than eight pairs in a list that uses make of such a list, or a point.
pub record EightAtMost : Type 0 where
  pub at_first : HasFewKin []
  pub used : (capacity : ℕ) (pairs uses : CacheList) → HasFewKin pairs → HasFewKin (use_all capacity pairs uses)
  pub forgets : (pairs : CacheList) (block : ℕ) → HasFewKin pairs → HasFewKin (forget pairs block)
  pub after_point : (r : Rules) (m : Machine) (placed : Places) → HasFewKin m.cache → HasFewKin (cache_after r m placed)
