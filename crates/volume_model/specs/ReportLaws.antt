-- What holds of the report of a point and of the places after it, in words that the definitions don't use.
use Rattle.std.specs.Prelude.{◌≡◌, ℕ, ◌+◌, ◌<◌, Bool, true, false, ◌&&◌, ◌||◌, IsTrue, if◌then◌else◌, List, [], ◌∷◌, ◌++◌, nat_eq, nat_le, nat_lt, Some, All}
use Rattle.std.specs.FinMap.{find}
use Rattle.tree_model.specs.declared.report.Line.{Line}
use Rattle.tree_model.specs.declared.report.Report.{Report}
use Rattle.volume_model.specs.Cache.{is_cached}
use Rattle.volume_model.specs.Lines.{fresh_lines, lines_places, in_order, fresh_only, share_only}
use Rattle.volume_model.specs.Machine.{Machine, Rules, block_at, held}
use Rattle.volume_model.specs.Places.{Spot, Places, spot_cmp, has_spot}
use Rattle.volume_model.specs.Point.{IsPoint, share_lines, fresh_spots, placed_at, placed_after, fresh_in}
use Rattle.volume_model.specs.Whole.{IsWhole}

-- It is the report of a point that was taken in a whole state, with a threshold of at least 1.
pub record IsReport (r : Rules) (m : Machine) (report : Report) : Type 0 where
  pub positive : 0 < r.threshold
  pub whole : IsWhole m
  pub point : IsPoint r m report

-- ---- each place once

-- whether a place is one of a line's
abbrev pub has_place : Line → Spot → Bool
has_place l spot = nat_eq l.number spot.0 && nat_le l.place spot.1 && nat_lt spot.1 (l.place + l.length)

-- how many of these lines have a place
abbrev pub lines_with : List Line → Spot → ℕ
lines_with [] spot = 0
lines_with (l ∷ ls) spot = (if has_place l spot then 1 else 0) + lines_with ls spot

-- A dirty place is in one line of a report, and no other place is in any.
abbrev pub EachPlaceOnce : Type 0
EachPlaceOnce = (r : Rules) (m : Machine) (report : Report) → IsReport r m report → (spot : Spot) → lines_with report.lines spot ≡ (if has_spot m.dirty spot then 1 else 0)

-- no place of a line is one of a line behind it
abbrev pub AreApart : List Line → Type 0
AreApart [] = Unit {0}
AreApart (l ∷ ls) = ((spot : Spot) → has_place l spot ≡ true → lines_with ls spot ≡ 0) × AreApart ls

-- No two lines of a report share a place.
abbrev pub LinesAreApart : Type 0
LinesAreApart = (r : Rules) (m : Machine) (report : Report) → IsReport r m report → AreApart report.lines

-- ---- the lines in order

-- whether a line is of a lower number than another, or of the same one and from an earlier place
abbrev pub stands_before : Line → Line → Bool
stands_before a b = nat_lt a.number b.number || (nat_eq a.number b.number && nat_lt a.place b.place)

-- each line stands before the next
abbrev pub StandInOrder : List Line → Type 0
StandInOrder [] = Unit {0}
StandInOrder (l ∷ []) = Unit {0}
StandInOrder (l ∷ next ∷ ls) = (stands_before l next ≡ true) × StandInOrder (next ∷ ls)

-- the dirty places that aren't shared, with these fresh blocks
abbrev pub fresh_places : Rules → Machine → List ℕ → Places
fresh_places r m fresh = placed_at (fresh_spots m (lines_places (share_lines r m))) fresh

-- The lines of a report stand in order. Those that share are the share lines, and the others the fresh ones. Only one list in order has these.
pub record ReportLinesAre : Type 0 where
  pub ordered : (r : Rules) (m : Machine) (report : Report) → IsReport r m report → StandInOrder report.lines
  pub shares : (r : Rules) (m : Machine) (report : Report) → IsReport r m report → share_only report.lines ≡ share_lines r m
  pub fresh : (r : Rules) (m : Machine) (report : Report) → IsReport r m report → fresh_only report.lines ≡ fresh_lines (fresh_places r m (fresh_in report))
  pub only : (lines : List Line) → StandInOrder lines → lines ≡ in_order (share_only lines ++ fresh_only lines)

-- ---- what is shared

-- The disk blocks of a line are cached, and hold the bytes of its places.
abbrev pub HasEqualBytes : Machine → Line → Type 0
HasEqualBytes m l = (k : ℕ) → k < l.length → IsTrue (is_cached m.cache (l.block + k)) × (held m (l.block + k) ≡ Some (block_at m.tree (l.number, l.place + k)))

-- What a report shares has equal bytes.
abbrev pub SharedBytesAreEqual : Type 0
SharedBytesAreEqual = (r : Rules) (m : Machine) (report : Report) → IsReport r m report → All (HasEqualBytes m) (share_only report.lines)

-- ---- the places after the point

-- each place of a line has its block
abbrev pub HasItsBlocks : Places → Line → Type 0
HasItsBlocks placed l = (k : ℕ) → k < l.length → find spot_cmp (l.number, l.place + k) placed ≡ Some (l.block + k)

-- After a point each place of a line has its block, and each place that wasn't dirty what was kept of it.
pub record PlacesAreTold : Type 0 where
  pub lines : (r : Rules) (m : Machine) (report : Report) → IsReport r m report → All (HasItsBlocks (placed_after r m (fresh_in report))) report.lines
  pub others : (r : Rules) (m : Machine) (report : Report) → IsReport r m report → (spot : Spot) → has_spot m.dirty spot ≡ false
      → find spot_cmp spot (placed_after r m (fresh_in report)) ≡ find spot_cmp spot m.kept
