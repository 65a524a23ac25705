-- Counting among numbers.
use Rattle.std.specs.Prelude.{◌≡◌, ℕ, zero, suc, ◌+◌, ◌-◌, ◌/◌, ◌≤◌, ◌<◌, ◌||◌, Bool, false, if◌then◌else◌, List, [], ◌∷◌, nat_eq}

-- so many numbers from one on
abbrev pub span : ℕ → ℕ → List ℕ
span from zero = []
span from (suc n) = from ∷ span (from + 1) n

-- whether a number is among these
abbrev pub is_among : List ℕ → ℕ → Bool
is_among [] n = false
is_among (m ∷ ms) n = nat_eq m n || is_among ms n

-- how many different numbers there are among these
abbrev pub different : List ℕ → ℕ
different [] = 0
different (n ∷ ns) = if is_among ns n then different ns else different ns + 1

-- no number stands among these twice
abbrev pub Distinct : List ℕ → Type 0
Distinct [] = Unit {0}
Distinct (n ∷ ns) = (is_among ns n ≡ false) × Distinct ns

-- how often a number is among these
abbrev pub times : ℕ → List ℕ → ℕ
times n [] = 0
times n (m ∷ ms) = (if nat_eq m n then 1 else 0) + times n ms

-- how many of these numbers pass a test
abbrev pub passing : (ℕ → Bool) → List ℕ → ℕ
passing test [] = 0
passing test (n ∷ ns) = (if test n then 1 else 0) + passing test ns

-- the sum of what these numbers are worth
abbrev pub total : (ℕ → ℕ) → List ℕ → ℕ
total worth [] = 0
total worth (n ∷ ns) = worth n + total worth ns

-- each is at least the low one and below the high one
abbrev pub AllWithin : ℕ → ℕ → List ℕ → Type 0
AllWithin low high [] = Unit {0}
AllWithin low high (n ∷ ns) = (low ≤ n) × (n < high) × AllWithin low high ns

-- how many groups of this size so many make, the last of which may be smaller
abbrev pub up : ℕ → ℕ → ℕ
up n size = (n + (size - 1)) / size
