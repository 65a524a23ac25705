-- Dirty places with the blocks that they match, for private functions.
use Rattle.std.specs.Prelude.{◌≡◌, ℕ, Bool, true, IsTrue, ◌&&◌, List, map, nat_eq}
use Rattle.std.specs.List.{list_any, AllZip}
use Rattle.vol_numbers.specs.declared.block.Block.{Block}
use Rattle.place_words.specs.Different.{is_among}
use Rattle.volume_model.specs.Cache.{CacheList, is_cached}
use Rattle.volume_model.specs.Selection.{Matching}
use Rattle.sequence_rule.specs.Matches.{block_matches}
use Rattle.sequence_rule.specs.Runs.{DirtyBlock}
use Rattle.sequence_rule.specs.declared.matched.PlaceMatches.{PlaceMatches}

abbrev pub matched_places : List PlaceMatches → List ℕ
matched_places rows = map (λ r. r.place) rows

-- whether a row is of this place, and has this block
abbrev pub row_matches : PlaceMatches → Matching
row_matches r place block = nat_eq r.place place && is_among r.blocks block

-- whether any row is and has
abbrev pub rows_match : List PlaceMatches → Matching
rows_match rows place block = list_any (λ r. row_matches r place block) rows

-- The row is of this dirty block: its blocks are cached, and where the disk tells its contents they are those that match.
pub record IsRowOf (tells : Bool) (cache : CacheList) (contents : List Block) (dirty : DirtyBlock) (row : PlaceMatches) : Type 0 where
  pub place : row.place ≡ dirty.0
  pub cached : (at : ℕ) → is_among row.blocks at ≡ true → is_cached cache at ≡ true
  pub matches : IsTrue tells → (at : ℕ) → is_among row.blocks at ≡ block_matches cache contents dirty.1 at

-- a row for each of these dirty blocks
abbrev pub AreRowsOf : Bool → CacheList → List Block → List DirtyBlock → List PlaceMatches → Type 0
AreRowsOf tells cache contents dirty rows = AllZip (IsRowOf tells cache contents) dirty rows
