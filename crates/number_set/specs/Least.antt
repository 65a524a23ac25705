-- The least number that isn't in a set.
use Rattle.std.specs.Prelude.{◌≡◌, ◌<◌, ◌≤◌, ℕ, true, false}
use Rattle.std.specs.Ordering.{nat_cmp}
use Rattle.std.specs.FinSet as set

-- a number up to 65,535 that isn't in the set, where each lesser one is
pub record IsLeastAbsent (numbers : set.FinSet nat_cmp) (number : ℕ) : Type 0 where
  pub at_most : number ≤ 65535
  pub absent : set.contains numbers number ≡ false
  pub least : (k : ℕ) → k < number → set.contains numbers k ≡ true

-- each number up to 65,535 is in the set
abbrev pub HasAll : set.FinSet nat_cmp → Type 0
HasAll numbers = (k : ℕ) → k ≤ 65535 → set.contains numbers k ≡ true
