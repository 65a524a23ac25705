-- The cache list: fingerprints with the disk blocks that have them, the one used last in front.
use Rattle.std.specs.Prelude.{ℕ, Bool, not, ◌&&◌, if◌then◌else◌, List, [], ◌∷◌, length, filter, map, take, nat_eq, nat_lt}
use Rattle.std.specs.List.{list_any}
use Rattle.std.specs.Cmp.Lexicographic.{pointwise}
use Rattle.place_words.specs.Different.{is_among}

-- fingerprints with disk blocks, each block once
abbrev pub CacheList : Type 0
CacheList = List (List ℕ × ℕ)

abbrev pub cached_blocks : CacheList → List ℕ
cached_blocks pairs = map (λ p. p.1) pairs

abbrev pub is_cached : CacheList → ℕ → Bool
is_cached pairs block = is_among (cached_blocks pairs) block

abbrev pub has_fingerprint : List ℕ → List ℕ × ℕ → Bool
has_fingerprint fingerprint pair = pointwise nat_eq pair.0 fingerprint

-- without the pair of a block
abbrev pub forget : CacheList → ℕ → CacheList
forget pairs block = filter (λ p. not (nat_eq p.1 block)) pairs

-- the pairs of a fingerprint
abbrev pub kin : CacheList → List ℕ → CacheList
kin pairs fingerprint = filter (has_fingerprint fingerprint) pairs

-- without the last pair of the fingerprint
abbrev pub without_last_kin : List ℕ → CacheList → CacheList
without_last_kin fingerprint [] = []
without_last_kin fingerprint (p ∷ ps) =
    if has_fingerprint fingerprint p && not (list_any (has_fingerprint fingerprint) ps) then ps else p ∷ without_last_kin fingerprint ps

-- with at most 8 pairs of the fingerprint, where there was at most one more
abbrev pub with_few_kin : List ℕ → CacheList → CacheList
with_few_kin fingerprint pairs = if nat_lt 8 (length (kin pairs fingerprint)) then without_last_kin fingerprint pairs else pairs

-- A block is used: its older pair leaves, and its new one stands in front. Of more than 8 pairs of the fingerprint the last leaves,
-- and so does what is behind the capacity.
abbrev pub use_block : ℕ → CacheList → List ℕ → ℕ → CacheList
use_block capacity pairs fingerprint block = take capacity (with_few_kin fingerprint ((fingerprint, block) ∷ forget pairs block))

-- used one after the other
abbrev pub use_all : ℕ → CacheList → CacheList → CacheList
use_all capacity pairs [] = pairs
use_all capacity pairs (p ∷ ps) = use_all capacity (use_block capacity pairs p.0 p.1) ps
