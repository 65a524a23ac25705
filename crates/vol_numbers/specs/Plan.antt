-- Which calls of a device in memory fail.
use Rattle.std.specs.Prelude.{◌≤◌, ◌⊎◌, ℕ, List, [], Option, None, Contains}
use Rattle.std.specs.Option.{IsSomeAnd}
use Rattle.vol_numbers.specs.Cause.{raised}

-- the number of the next call, the numbers of calls that fail, and the number from which on all fail
pub record Plan : Type 0 where
  pub next : ℕ
  pub fails : List ℕ
  pub from : Option ℕ

-- no call fails
abbrev pub no_plan : Plan
no_plan = record { next = 0; fails = []; from = None }

-- the next call fails
abbrev pub IsPlanned : Plan → Type 0
IsPlanned plan = Contains plan.fails plan.next ⊎ IsSomeAnd plan.from (λ first. first ≤ plan.next)

-- one call later
abbrev pub advanced : Plan → Plan
advanced plan = record plan { next = raised plan.next }
