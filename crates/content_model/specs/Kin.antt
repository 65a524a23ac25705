-- The blocks of one fingerprint.
use Rattle.std.specs.Prelude.{◌≡◌, ℕ, ◌+◌, if◌then◌else◌, List, [], ◌∷◌, nat_le}
use Rattle.place_words.specs.Different.{is_among}
use Rattle.place_words.specs.Rising.{Rising}

-- the same numbers, ascending
pub record AreAscending (numbers ascending : List ℕ) : Type 0 where
  pub rising : Rising 0 ascending
  pub same : (n : ℕ) → is_among ascending n ≡ is_among numbers n

-- with a number more, in front of the first that is above it
abbrev pub in_order : ℕ → List ℕ → List ℕ
in_order n [] = n ∷ []
in_order n (m ∷ ms) = if nat_le n m then n ∷ m ∷ ms else m ∷ in_order n ms

-- with a number more, unless it is there
abbrev pub included : ℕ → List ℕ → List ℕ
included n ms = if is_among ms n then ms else in_order n ms

-- ---- for a private function

-- the place of the first number that isn't below this one
abbrev pub place_in : ℕ → List ℕ → ℕ
place_in n [] = 0
place_in n (m ∷ ms) = if nat_le n m then 0 else place_in n ms + 1
