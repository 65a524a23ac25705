-- Laws of fresh blocks.
use Rattle.std.specs.Prelude.{◌≡◌, ◌≤◌, ◌<◌, ℕ, true, false, List, [], length}
use Rattle.tree_model.specs.declared.report.Line.{Line}
use Rattle.tree_model.specs.declared.report.Report.{Report}
use Rattle.place_words.specs.Different.{is_among, times}
use Rattle.run_allocator.specs.Runs.{Ascends}
use Rattle.volume_model.specs.Lines.{fresh_lines, line_blocks, lines_places}
use Rattle.volume_model.specs.Machine.{Machine, Rules, free_of}
use Rattle.volume_model.specs.Places.{spots_of}
use Rattle.volume_model.specs.Point.{after_point, fresh_in, is_unused, next_point, placed_after, share_lines}
use Rattle.volume_model.specs.ReportLaws.{IsReport}
use Rattle.volume_model.specs.Whole.{IsWhole}
use Rattle.dirty_store.specs.Laws.{dirty_spots}
use Rattle.dirty_store.specs.Numbers.{AreOnce, staged_numbers}
use Rattle.dirty_store.specs.Overlay.{Overlay}
use Rattle.point_model.specs.NodePlan.{AreOfPlaces}
use Rattle.fresh_runs.specs.Fresh.{AreNumbersOf, blocks_in, changes_of, IsPartedInto}

-- ---- numbers

-- The numbers of which something is staged have those of all dirty places.
abbrev pub StagedHaveDirty : Type 0
StagedHaveDirty = (o : Overlay) (numbers : List ℕ) → AreOnce (staged_numbers o) numbers → AreNumbersOf (dirty_spots o) numbers

-- ---- the report

-- the report that tells of these fresh lines alone
abbrev pub fresh_report : Rules → Machine → List Line → Report
fresh_report r m lines = record {
  number = next_point m;
  fresh = line_blocks lines;
  shared = 0;
  free = free_of (after_point r m (blocks_in lines));
  lines = lines;
}

-- The lines have the dirty places, in the longest stretches.
pub record AreFreshLines (m : Machine) (lines : List Line) : Type 0 where
  pub spots : spots_of (lines_places lines) ≡ m.dirty
  pub longest : lines ≡ fresh_lines (lines_places lines)

-- These blocks ascend, and no place had one of them at the last point.
pub record AreUnused (m : Machine) (free : List ℕ) : Type 0 where
  pub ascend : Ascends 1 free
  pub unused : (b : ℕ) → is_among free b ≡ true → is_unused m b ≡ true

-- Where nothing is shared, lines of the dirty places at blocks that are taken of unused ones make a report of a point. It tells of these blocks,
-- and its fresh ones are as many as there are dirty places.
pub record FreshIsReported : Type 0 where
  pub report : (r : Rules) (m : Machine) (lines : List Line) (free left : List ℕ) → 0 < r.threshold → IsWhole m → share_lines r m ≡ [] → AreFreshLines m lines
      → AreUnused m free → IsPartedInto free (blocks_in lines) left → IsReport r m (fresh_report r m lines)
  pub told : (r : Rules) (m : Machine) (lines : List Line) → AreFreshLines m lines → fresh_in (fresh_report r m lines) ≡ blocks_in lines
  pub many : (m : Machine) (lines : List Line) → AreFreshLines m lines → line_blocks lines ≡ length m.dirty

-- Where the cache is empty, nothing is shared.
abbrev pub NothingIsShared : Type 0
NothingIsShared = (r : Rules) (m : Machine) → 0 < r.threshold → IsWhole m → m.cache ≡ [] → share_lines r m ≡ []

-- ---- changes

-- The changes that the lines of a report make of a file are its dirty places, each with the block that it has after the point.
abbrev pub ChangesAreOfPlaces : Type 0
ChangesAreOfPlaces = (r : Rules) (m : Machine) (report : Report) (number : ℕ) → IsReport r m report
    → AreOfPlaces m.dirty (placed_after r m (fresh_in report)) number (changes_of (lines_places report.lines) number)
