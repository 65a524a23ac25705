-- Worked rows.
use Rattle.std.specs.Prelude.{◌≡◌, ℕ, List, [], ◌∷◌, length}
use Rattle.vol_numbers.specs.declared.runs.Run.{Run}
use Rattle.run_allocator.specs.Taken.{taken_runs, runs_of, left_without}

abbrev pub run : ℕ → ℕ → Run
run first length = record { first = first; length = length }

-- eight free blocks, in runs of two, three and three
abbrev pub eight : List ℕ
eight = 200 ∷ 201 ∷ 210 ∷ 211 ∷ 212 ∷ 220 ∷ 221 ∷ 222 ∷ []

-- what is taken of them for seven, for two and for three blocks
pub record EightRows : Type 0 where
  pub runs : runs_of eight ≡ run 200 2 ∷ run 210 3 ∷ run 220 3 ∷ []
  pub count : length eight ≡ 8
  pub seven : taken_runs eight 7 ≡ run 210 3 ∷ run 220 3 ∷ run 200 1 ∷ []
  pub left_of_seven : left_without eight (taken_runs eight 7) ≡ 201 ∷ []
  pub two : taken_runs eight 2 ≡ run 200 2 ∷ []
  pub three : taken_runs eight 3 ≡ run 210 3 ∷ []
  pub left_of_three : left_without eight (taken_runs eight 3) ≡ 200 ∷ 201 ∷ 220 ∷ 221 ∷ 222 ∷ []
