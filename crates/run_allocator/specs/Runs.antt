-- Sets of block numbers, as ascending lists and as runs.
use Rattle.std.specs.Prelude.{◌≤◌, ◌<◌, ℕ, zero, suc, ◌+◌, ◌==◌, ◌&&◌, nat_le, nat_lt, not, Bool, if◌then◌else◌, List, [], ◌∷◌, ◌++◌, filter, drop, take}
use Rattle.vol_numbers.specs.declared.runs.Run.{Run}
use Rattle.vol_numbers.specs.Layout.{Layout, area_start}

-- Ascending numbers of blocks from a number on, within the greatest volume.
abbrev pub Ascends : ℕ → List ℕ → Type 0
Ascends least [] = Unit {0}
Ascends least (b ∷ bs) = (least ≤ b) × (b < 65536) × Ascends (b + 1) bs

-- so many numbers from the first on
abbrev pub numbers_from : ℕ → ℕ → List ℕ
numbers_from first zero = []
numbers_from first (suc n) = first ∷ numbers_from (first + 1) n

-- the numbers of some runs
abbrev pub numbers_of : List Run → List ℕ
numbers_of [] = []
numbers_of (r ∷ rs) = numbers_from r.first r.length ++ numbers_of rs

-- Runs in ascending order from a number on, none of them empty, no two adjacent, within the greatest volume.
abbrev pub AreApart : ℕ → List Run → Type 0
AreApart least [] = Unit {0}
AreApart least (r ∷ rs) = (least ≤ r.first) × (1 ≤ r.length) × (r.first + r.length ≤ 65536) × AreApart (r.first + r.length + 1) rs

-- whether a run covers a number
abbrev pub covers : Run → ℕ → Bool
covers r b = nat_le r.first b && nat_lt b (r.first + r.length)

-- the numbers that a run doesn't cover
abbrev pub outside : List ℕ → Run → List ℕ
outside free r = filter (λ b. not (covers r b)) free

-- the places of zeros, of a list whose first place is this number
abbrev pub zeros_from : ℕ → List ℕ → List ℕ
zeros_from n [] = []
zeros_from n (c ∷ cs) = if c == 0 then n ∷ zeros_from (n + 1) cs else zeros_from (n + 1) cs

-- the blocks of the area that have the count 0
abbrev pub free_area : Layout → List ℕ → List ℕ
free_area g counts = zeros_from (area_start g) (drop (area_start g) (take g.blocks counts))
