-- Numbers that strictly rise.
use Rattle.std.specs.Prelude.{ℕ, ◌+◌, ◌≤◌, ◌<◌, List, [], ◌∷◌}

-- strictly rising, from a number on
abbrev pub Rising : ℕ → List ℕ → Type 0
Rising n [] = Unit {0}
Rising n (x ∷ xs) = (n ≤ x) × Rising (x + 1) xs

-- each is below a limit
abbrev pub AllUnder : ℕ → List ℕ → Type 0
AllUnder limit [] = Unit {0}
AllUnder limit (x ∷ xs) = (x < limit) × AllUnder limit xs
