-- Places in a list of directories, in words of private functions alone.
use Rattle.std.specs.Prelude.{ℕ, ◌<◌, ◌≤◌, List, [], length, slice_index_or}
use Rattle.held_list.specs.declared.held.Held.{Held}

abbrev pub held_at : List Held → ℕ → Held
held_at held k = slice_index_or held k (record { number = 0; slots = [] })

abbrev pub number_at : List Held → ℕ → ℕ
number_at held k = (held_at held k).number

-- The number stands between those before this place and those from it on.
pub record IsGap (held : List Held) (number place : ℕ) : Type 0 where
  pub within : place ≤ length held
  pub before : (k : ℕ) → k < place → number_at held k < number
  pub behind : (k : ℕ) → place ≤ k → k < length held → number < number_at held k
