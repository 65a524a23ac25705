-- Relations for private functions: lines and changes that grow.
use Rattle.std.specs.Prelude.{◌≡◌, ◌≤◌, ℕ, ◌+◌, Bool, true, false, List, [], ◌∷◌, ◌++◌, map, nat_eq}
use Rattle.std.specs.List.{flat_map}
use Rattle.vol_numbers.specs.declared.runs.Change.{Change}
use Rattle.vol_numbers.specs.declared.runs.Run.{Run}
use Rattle.tree_model.specs.declared.report.Line.{Line}
use Rattle.place_words.specs.Different.{span}
use Rattle.volume_model.specs.Laws.{AreLongest, continues}
use Rattle.volume_model.specs.Lines.{is_fresh, lines_places}
use Rattle.volume_model.specs.Places.{Spot, Places}
use Rattle.volume_model.specs.Point.{placed_at}
use Rattle.fresh_runs.specs.Fresh.{spots_at, run_lengths, taken_for, left_after, as_changes, changes_of}

-- ---- lines

-- each is of fresh blocks, and of at least one
abbrev pub AreFresh : List Line → Type 0
AreFresh [] = Unit {0}
AreFresh (l ∷ ls) = (is_fresh l ≡ true) × (1 ≤ l.length) × AreFresh ls

-- fresh lines, none of which goes on where the one before it ends
pub record AreStretches (lines : List Line) : Type 0 where
  pub fresh : AreFresh lines
  pub longest : AreLongest lines

-- whether a line goes on where the last of these ends
abbrev pub goes_on : List Line → Line → Bool
goes_on [] line = false
goes_on (l ∷ []) line = continues l line
goes_on (l ∷ next ∷ ls) line = goes_on (next ∷ ls) line

-- with the last line longer by so many
abbrev pub lengthened : ℕ → List Line → List Line
lengthened more [] = []
lengthened more (l ∷ []) = record l { length = l.length + more } ∷ []
lengthened more (l ∷ next ∷ ls) = l ∷ lengthened more (next ∷ ls)

-- ---- steps

-- These spots with these blocks are told of by the lines and the changes, behind all others.
pub record Adds (spots : List Spot) (blocks : List ℕ) (was is : List Line) (before after : List Change) : Type 0 where
  pub lines : lines_places is ≡ lines_places was ++ placed_at spots blocks
  pub changes : after ≡ before ++ as_changes (placed_at spots blocks)
  pub stretches : AreStretches was → AreStretches is

-- so many spots of a number from a place on
abbrev pub spots_from : ℕ → ℕ → ℕ → List Spot
spots_from number place n = map (λ p. (number, p)) (span place n)

-- the spots of runs of places
abbrev pub spots_in : ℕ → List Run → List Spot
spots_in number runs = flat_map (λ (r : Run). spots_from number r.first r.length) runs

-- each run has a place, and none ends behind the greatest place
abbrev pub AreRuns : List Run → Type 0
AreRuns [] = Unit {0}
AreRuns (r ∷ rs) = (1 ≤ r.length) × (r.first + r.length ≤ 1048576) × AreRuns rs

-- each run of blocks has a block, and none ends behind the greatest volume
abbrev pub AreBlockRuns : List Run → Type 0
AreBlockRuns [] = Unit {0}
AreBlockRuns (r ∷ rs) = (1 ≤ r.length) × (r.first + r.length ≤ 65536) × AreBlockRuns rs

-- the spots of these numbers, number by number
abbrev pub spots_by : List Spot → List ℕ → List Spot
spots_by spots numbers = flat_map (spots_at spots) numbers

-- The spots of these numbers have got their blocks of those that were free.
pub record ArePlaced (spots : List Spot) (free numbers : List ℕ) (lines : List Line) (rest : List ℕ) (each : List (List Change)) : Type 0 where
  pub places : lines_places lines ≡ placed_at (spots_by spots numbers) (taken_for free (run_lengths spots numbers))
  pub stretches : AreStretches lines
  pub left : rest ≡ left_after free (run_lengths spots numbers)
  pub changes : each ≡ map (changes_of (lines_places lines)) numbers
