-- Relations for private functions: entries by their places and in their boxes, runs so far, and what a store keeps.
use Rattle.std.specs.Prelude.{◌≡◌, ◌<◌, ◌≤◌, ℕ, suc, ◌+◌, Bool, false, IsTrue, nat_eq, List, [], ◌∷◌, length, slice_index_or, map, if◌then◌else◌, Option, Some}
use Rattle.std.specs.List.{slice_range, remove_range}
use Rattle.std.specs.Option.{option_map}
use Rattle.std.specs.Ordering.{is_gt, nat_cmp}
use Rattle.std.specs.declared.alloc.Global.{Global}
use Rattle.std.specs.declared.boxed.Box.{Box}
use Rattle.std.specs.declared.cmp.Ordering.TheVariants.{Less, Greater}
use Rattle.std.specs.FinMap.{is_sorted}
use Rattle.vol_numbers.specs.declared.block.Block.{Block}
use Rattle.vol_numbers.specs.declared.runs.Run.{Run}
use Rattle.block_format.specs.declared.slot.Slot.{Slot}
use Rattle.volume_model.specs.Places.{Spot, spot_cmp}
use Rattle.dirty_store.specs.declared.node_change.NodeChange.{NodeChange}
use Rattle.dirty_store.specs.Entries.{Entries, AreKept, cut_at, cut_away, uncut}
use Rattle.dirty_store.specs.Runs.{AreRunsOf}

-- ---- entries

-- what boxed entries have in their boxes
abbrev pub unboxed : {T : Type 0} → Entries (Box T Global) → Entries T
unboxed entries = map (λ e. (e.0, e.1.value)) entries

-- the same of what was there
abbrev pub was_unboxed : {T : Type 0} → Entries (Option (Box T Global)) → Entries (Option T)
was_unboxed was = map (λ e. (e.0, option_map (λ b. b.value) e.1)) was

-- A spot stands at this place among entries.
pub record IsPlaceOf {T : Type 0} (spot : Spot) (entries : Entries T) (place : ℕ) : Type 0 where
  pub within : place < length entries
  pub same : (d : Spot × T) → (slice_index_or entries place d).0 ≡ spot

-- A spot has no entry, and would stand at this place.
pub record IsGapFor {T : Type 0} (spot : Spot) (entries : Entries T) (place : ℕ) : Type 0 where
  pub within : place ≤ length entries
  pub before : (k : ℕ) (d : Spot × T) → k < place → spot_cmp spot (slice_index_or entries k d).0 ≡ Greater
  pub behind : (k : ℕ) (d : Spot × T) → place ≤ k → k < length entries → spot_cmp spot (slice_index_or entries k d).0 ≡ Less

-- how many entries at the front are before a spot
abbrev pub count_before : {T : Type 0} → Spot → Entries T → ℕ
count_before spot [] = 0
count_before spot (e ∷ es) = if is_gt (spot_cmp spot e.0) then suc (count_before spot es) else 0

-- These are the bounds of a node's entries from a place on.
pub record AreBoundsOf {T : Type 0} (number from : ℕ) (entries : Entries T) (start end : ℕ) : Type 0 where
  pub ordered : start ≤ end
  pub within : end ≤ length entries
  pub inside : slice_range entries start end ≡ cut_away (cut_at number (Some from)) entries
  pub outside : remove_range entries start end ≡ uncut (cut_at number (Some from)) entries

-- entries as what a cut replaced
abbrev pub all_there : {T : Type 0} → Entries T → Entries (Option T)
all_there entries = map (λ e. (e.0, Some e.1)) entries

-- ---- runs

-- no run ends behind the greatest place
abbrev pub AreRunsWithin : List Run → Type 0
AreRunsWithin [] = Unit {0}
AreRunsWithin (r ∷ rs) = (r.first + r.length ≤ 1048576) × AreRunsWithin rs

-- whether the last run ends at a place
abbrev pub ends_at : List Run → ℕ → Bool
ends_at [] place = false
ends_at (r ∷ []) place = nat_eq (r.first + r.length) place
ends_at (r ∷ next ∷ rs) place = ends_at (next ∷ rs) place

-- with the last run longer by one
abbrev pub lengthened : List Run → List Run
lengthened [] = []
lengthened (r ∷ []) = record { first = r.first; length = r.length + 1 } ∷ []
lengthened (r ∷ next ∷ rs) = r ∷ lengthened (next ∷ rs)

-- some runs of places, none of which ends behind the greatest place
pub record AreRunsSoFar (places : List ℕ) (runs : List Run) : Type 0 where
  pub are : AreRunsOf places runs
  pub within : AreRunsWithin runs

-- ---- the store

-- what is kept of a store: each part in order
pub record IsKept (blocks : Entries (Box Block Global)) (nodes : List (ℕ × NodeChange)) (slots : Entries (Box Slot Global)) : Type 0 where
  pub kept_blocks : AreKept blocks
  pub sorted_nodes : IsTrue (is_sorted nat_cmp nodes)
  pub kept_slots : AreKept slots
