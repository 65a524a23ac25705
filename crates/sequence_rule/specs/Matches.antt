-- Which dirty blocks match which disk blocks.
use Rattle.std.specs.Prelude.{◌≡◌, ◌<◌, ℕ, Bool, true, false, List, nat_eq, slice_get, option_map, unwrap_or, Some}
use Rattle.std.specs.List.{list_any, All}
use Rattle.vol_numbers.specs.declared.block.Block.{Block}
use Rattle.sha2.specs.Sha256.{sha256}
use Rattle.volume_model.specs.declared.sequence.Sequence.{Sequence}
use Rattle.volume_model.specs.Cache.{CacheList, is_cached}
use Rattle.volume_model.specs.Selection.{Matching, IsSelection}
use Rattle.volume_model.specs.Sharing.{and_then, same_bytes}
use Rattle.sequence_rule.specs.Runs.{DirtyBlock}

-- whether a disk block holds the bytes of a block
abbrev pub holds : List Block → ℕ → Block → Bool
holds contents at block = unwrap_or (option_map (λ held. same_bytes block.bytes held.bytes) (slice_get contents at)) false

-- Whether a block matches a disk block: that is in the cache list, and holds the same bytes. No fingerprint is looked at.
abbrev pub block_matches : CacheList → List Block → Block → ℕ → Bool
block_matches cache contents block at = and_then (is_cached cache at) (λ _. holds contents at block)

-- whether the dirty block of a place matches a disk block
abbrev pub matches : CacheList → List Block → List DirtyBlock → Matching
matches cache contents dirty place at = list_any (λ e. and_then (nat_eq e.0 place) (λ _. block_matches cache contents e.1 at)) dirty

-- each block of the cache list lies below a limit
abbrev pub LieBelow : ℕ → CacheList → Type 0
LieBelow limit cache = All (λ p. p.1 < limit) cache

-- each block of the cache list has its fingerprint there
abbrev pub HaveFingerprints : List Block → CacheList → Type 0
HaveFingerprints contents cache = All (λ p. (held : Block) → slice_get contents p.1 ≡ Some held → p.0 ≡ sha256 held.bytes) cache

-- It is the selection by some matches, each of them with a block of the cache list.
pub record SelectsCached (cache : CacheList) (threshold : ℕ) (places : List ℕ) (sequences : List Sequence) : Type 0 where
  pub matching : Matching
  pub cached : (place at : ℕ) → matching place at ≡ true → is_cached cache at ≡ true
  pub selection : IsSelection matching threshold places sequences
