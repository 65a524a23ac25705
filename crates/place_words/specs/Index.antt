-- The index blocks that a node needs.
use Rattle.std.specs.Prelude.{ℕ, ◌+◌, ◌/◌, if◌then◌else◌, List, [], ◌∷◌, map, nat_le, nat_lt}
use Rattle.place_words.specs.Different.{different}

-- the leaves over these places: each of them has 1,024
abbrev pub leaves_over : List ℕ → ℕ
leaves_over places = different (map (λ place. place / 1024) places)

-- Of a node of so many blocks that has something at these places: none where it has at most one block or nothing at all,
-- else the leaves over the places, and a top index where it has more than 1,024 blocks.
abbrev pub index_blocks : ℕ → List ℕ → ℕ
index_blocks blocks [] = 0
index_blocks blocks (p ∷ ps) = if nat_le blocks 1 then 0 else leaves_over (p ∷ ps) + (if nat_lt 1024 blocks then 1 else 0)
