-- Which runs are taken of a set of free blocks.
use Rattle.std.specs.Prelude.{◌≡◌, ◌<◌, ℕ, ◌+◌, ◌-◌, ◌==◌, nat_le, nat_lt, if◌then◌else◌, List, [], ◌∷◌, Option, Some, None}
use Rattle.vol_numbers.specs.declared.runs.Run.{Run}
use Rattle.run_allocator.specs.Runs.{outside}

-- one number more in front of the runs above it
abbrev pub with_number : ℕ → List Run → List Run
with_number b [] = record { first = b; length = 1 } ∷ []
with_number b (r ∷ rs) = if b + 1 == r.first then record { first = b; length = r.length + 1 } ∷ rs else record { first = b; length = 1 } ∷ r ∷ rs

-- the longest runs of adjacent numbers of an ascending list
abbrev pub runs_of : List ℕ → List Run
runs_of [] = []
runs_of (b ∷ bs) = with_number b (runs_of bs)

-- the first run of at least so many
abbrev pub first_fit : ℕ → List Run → Option Run
first_fit n [] = None
first_fit n (r ∷ rs) = if nat_le n r.length then Some r else first_fit n rs

-- the longer of a run and another that may be there, the first among equals
abbrev pub longer : Run → Option Run → Option Run
longer r None = Some r
longer r (Some s) = if nat_lt r.length s.length then Some s else Some r

-- the longest run, the lowest among equals
abbrev pub longest : List Run → Option Run
longest [] = None
longest (r ∷ rs) = longer r (longest rs)

-- the lowest blocks of a run
abbrev pub front : Run → ℕ → Run
front r n = record { first = r.first; length = n }

-- the front of the run that is long enough, or else the other run whole
abbrev pub step_or : ℕ → Option Run → Option Run → Option Run
step_or n (Some r) other = Some (front r n)
step_or n None other = other

-- What a step takes for n blocks: of the lowest run that is long enough its lowest blocks, or else the longest run, the lowest among equals.
abbrev pub step_taken : ℕ → List ℕ → Option Run
step_taken n free = step_or n (first_fit n (runs_of free)) (longest (runs_of free))

-- These runs are taken for n blocks, one after the other, each from what is left.
pub data AreTaken : List ℕ → ℕ → List Run → Type 0 where
  done : (free : List ℕ) → AreTaken free 0 []
  more : (free : List ℕ) (n : ℕ) (r : Run) (rs : List Run) → 0 < n → step_taken n free ≡ Some r → AreTaken (outside free r) (n - r.length) rs → AreTaken free n (r ∷ rs)

-- what is left without these runs
abbrev pub left_without : List ℕ → List Run → List ℕ
left_without free [] = free
left_without free (r ∷ rs) = left_without (outside free r) rs

-- a run in front of what follows it, where there is one
abbrev pub taken_or : Option Run → (Run → List Run) → List Run
taken_or None on = []
taken_or (Some r) on = r ∷ on r

-- the steps for n blocks; the first list is as long as the steps may be many
abbrev pub taken_in : List ℕ → List ℕ → ℕ → List Run
taken_in [] free n = []
taken_in (x ∷ steps) free n = if n == 0 then [] else taken_or (step_taken n free) (λ r. taken_in steps (outside free r) (n - r.length))

-- the runs that n blocks are taken as
abbrev pub taken_runs : List ℕ → ℕ → List Run
taken_runs free n = taken_in free free n
