-- Places as runs.
use Rattle.std.specs.Prelude.{◌≡◌, ◌≢◌, ◌≤◌, ℕ, ◌+◌, List, [], ◌∷◌}
use Rattle.std.specs.List.{flat_map}
use Rattle.vol_numbers.specs.declared.runs.Run.{Run}
use Rattle.place_words.specs.Different.{span}

-- the places of some runs
abbrev pub places_in : List Run → List ℕ
places_in runs = flat_map (λ r. span r.first r.length) runs

-- None is empty, and none begins where the one before it ends.
abbrev pub AreLongest : List Run → Type 0
AreLongest [] = Unit {0}
AreLongest (r ∷ []) = 1 ≤ r.length
AreLongest (r ∷ next ∷ rs) = (1 ≤ r.length) × (r.first + r.length ≢ next.first) × AreLongest (next ∷ rs)

-- The runs have these places, in this order, and each is as long as can be.
pub record AreRunsOf (places : List ℕ) (runs : List Run) : Type 0 where
  pub places_are : places_in runs ≡ places
  pub longest : AreLongest runs
