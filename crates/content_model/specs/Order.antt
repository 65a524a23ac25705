-- The order of a cache list.
use Rattle.std.specs.Prelude.{ℕ, if◌then◌else◌, List, [], ◌∷◌, nat_eq, slice_get, Option, Some, None}

-- the number behind this one
abbrev pub behind : ℕ → List ℕ → Option ℕ
behind n [] = None
behind n (m ∷ ms) = if nat_eq m n then slice_get ms 0 else behind n ms

-- the block behind the one that is given, and with none the front one
abbrev pub older_in : List ℕ → Option ℕ → Option ℕ
older_in blocks None = slice_get blocks 0
older_in blocks (Some block) = behind block blocks
