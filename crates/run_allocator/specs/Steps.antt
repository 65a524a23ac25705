-- The steps of the code, over the runs that it keeps.
use Rattle.std.specs.Prelude.{◌≡◌, ◌<◌, ◌≤◌, ℕ, ◌+◌, ◌-◌, ◌==◌, zero, suc, if◌then◌else◌, List, [], ◌∷◌, length, Some}
use Rattle.std.specs.List.{slice_get}
use Rattle.vol_numbers.specs.declared.runs.Run.{Run}
use Rattle.run_allocator.specs.Runs.{outside, numbers_of, AreApart}
use Rattle.run_allocator.specs.Taken.{first_fit, longest, front, step_or, step_taken, AreTaken, left_without}
use Rattle.run_allocator.specs.declared.pieces.Piece.{Piece}

-- without the first n numbers of the run i
abbrev pub take_at : List Run → ℕ → ℕ → List Run
take_at [] i n = []
take_at (r ∷ rs) zero n = if n == r.length then rs else record { first = r.first + n; length = r.length - n } ∷ rs
take_at (r ∷ rs) (suc i) n = r ∷ take_at rs i n

-- A piece is the front of one of these runs.
pub record IsFront (runs : List Run) (p : Piece) : Type 0 where
  pub there : slice_get runs p.index ≡ Some p.run
  pub index : p.index < length runs
  pub positive : 1 ≤ p.length
  pub within : p.length ≤ p.run.length
  pub end : p.run.first + p.run.length ≤ 65536

-- The rule takes this piece for n blocks.
pub record IsPiece (runs : List Run) (n : ℕ) (p : Piece) : Type 0 where
  pub part : IsFront runs p
  pub at_most : p.length ≤ n
  pub rule : step_or n (first_fit n runs) (longest runs) ≡ Some (front p.run p.length)

-- A step for n blocks takes this run of those that are free, and leaves these runs.
pub record IsStep (runs : List Run) (n : ℕ) (r : Run) (left : List Run) : Type 0 where
  pub taken : step_taken n (numbers_of runs) ≡ Some r
  pub rest : numbers_of left ≡ outside (numbers_of runs) r
  pub apart : AreApart 1 left
  pub positive : 1 ≤ r.length
  pub at_most : r.length ≤ n
  pub fewer : length (numbers_of left) + r.length ≡ length (numbers_of runs)

-- By the rule these runs are taken for n blocks, and those are left.
pub record AreSteps (runs : List Run) (n : ℕ) (pieces left : List Run) : Type 0 where
  pub taken : AreTaken (numbers_of runs) n pieces
  pub rest : numbers_of left ≡ left_without (numbers_of runs) pieces
  pub apart : AreApart 1 left
  pub fewer : length (numbers_of left) + n ≡ length (numbers_of runs)
