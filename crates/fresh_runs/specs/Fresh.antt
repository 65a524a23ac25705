-- The blocks that a point gives to the dirty places of files.
use Rattle.std.specs.Prelude.{◌≡◌, ℕ, ◌+◌, true, List, [], ◌∷◌, ◌++◌, filter, map, nat_eq}
use Rattle.std.specs.List.{flat_map}
use Rattle.vol_numbers.specs.declared.runs.Change.{Change}
use Rattle.vol_numbers.specs.declared.runs.Run.{Run}
use Rattle.tree_model.specs.declared.report.Line.{Line}
use Rattle.place_words.specs.Different.{is_among, times}
use Rattle.place_words.specs.Rising.{Rising}
use Rattle.run_allocator.specs.Runs.{numbers_of}
use Rattle.run_allocator.specs.Taken.{runs_of, taken_runs, left_without}
use Rattle.volume_model.specs.Lines.{lines_places}
use Rattle.volume_model.specs.Places.{Spot, Places, has_spot, blocks_of}

-- ---- files and their runs

-- These numbers rise, and that of each spot is among them.
pub record AreNumbersOf (spots : List Spot) (numbers : List ℕ) : Type 0 where
  pub rise : Rising 0 numbers
  pub each : (spot : Spot) → has_spot spots spot ≡ true → is_among numbers spot.0 ≡ true

-- the spots of a number
abbrev pub spots_at : List Spot → ℕ → List Spot
spots_at spots number = filter (λ (s : Spot). nat_eq s.0 number) spots

-- the places of a number, as their longest runs
abbrev pub runs_at : List Spot → ℕ → List Run
runs_at spots number = runs_of (map (λ (s : Spot). s.1) (spots_at spots number))

-- the lengths of these runs
abbrev pub lengths_at : List Spot → ℕ → List ℕ
lengths_at spots number = map (λ (r : Run). r.length) (runs_at spots number)

-- the lengths of the runs of these numbers, by number and place
abbrev pub run_lengths : List Spot → List ℕ → List ℕ
run_lengths spots numbers = flat_map (lengths_at spots) numbers

-- ---- the blocks for them

-- the blocks that the rule takes for runs of these lengths, one run after the other, each from what is left
abbrev pub taken_for : List ℕ → List ℕ → List ℕ
taken_for free [] = []
taken_for free (n ∷ ns) = numbers_of (taken_runs free n) ++ taken_for (left_without free (taken_runs free n)) ns

-- what is left then
abbrev pub left_after : List ℕ → List ℕ → List ℕ
left_after free [] = free
left_after free (n ∷ ns) = left_after (left_without free (taken_runs free n)) ns

-- Each free block is taken or left, number by number.
abbrev pub IsPartedInto : List ℕ → List ℕ → List ℕ → Type 0
IsPartedInto free taken left = (b : ℕ) → times b taken + times b left ≡ times b free

-- the blocks that lines tell of, by place
abbrev pub blocks_in : List Line → List ℕ
blocks_in lines = blocks_of (lines_places lines)

-- ---- changes

-- placed blocks as changes of a tree
abbrev pub as_changes : Places → List Change
as_changes placed = map (λ e. record { place = e.0.1; block = e.1 }) placed

-- the changes of a number
abbrev pub changes_of : Places → ℕ → List Change
changes_of placed number = as_changes (filter (λ e. nat_eq e.0.0 number) placed)
