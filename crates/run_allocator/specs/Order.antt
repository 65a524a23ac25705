-- The order in which the code takes runs whole. These words are for the contracts of private functions.
use Rattle.std.specs.Prelude.{◌≡◌, ◌≤◌, ◌<◌, ℕ, zero, suc, ◌-◌, ◌==◌, ◌&&◌, ◌||◌, nat_lt, not, Bool, List, [], ◌∷◌, filter}
use Rattle.std.specs.List.Sorted.{IsPermutation, IsSortedBy}
use Rattle.vol_numbers.specs.declared.runs.Run.{Run}

-- whether a run is taken whole before another: it is longer, or as long and lower
abbrev pub goes_before : Run → Run → Bool
goes_before r s = nat_lt s.length r.length || (r.length == s.length && nat_lt r.first s.first)

-- These are the same runs, and none stands behind one that it goes before.
pub record IsOrder (runs order : List Run) : Type 0 where
  pub same : IsPermutation runs order
  pub sorted : IsSortedBy goes_before order

-- the runs that don't go before this one
abbrev pub not_before : List Run → Run → List Run
not_before runs q = filter (λ r. not (goes_before r q)) runs

-- For n blocks the first k runs of an order are taken whole, each shorter than what is wanted then. The next has what is left.
abbrev pub AreWhole : List Run → ℕ → ℕ → ℕ → Type 0
AreWhole [] n k left = ⊥
AreWhole (r ∷ rs) n zero left = (n ≡ left) × (n ≤ r.length)
AreWhole (r ∷ rs) n (suc k) left = (r.length < n) × AreWhole rs (n - r.length) k left
