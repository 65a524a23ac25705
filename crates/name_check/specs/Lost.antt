-- Which numbers are named or reached wrongly, by sets of numbers.
use Rattle.std.specs.Prelude.{◌≡◌, ◌≤◌, ◌<◌, ◌&&◌, ◌||◌, not, ℕ, Bool, true, false, length}
use Rattle.std.specs.FinSet as set
use Rattle.image_model.specs.Nodes.{is_root_named, is_unused_named, is_not_named_once, is_lost, numbers_named, reached_in}
use Rattle.image_model.specs.Seen.{Seen}
use Rattle.name_check.specs.declared.lost.Marks.{Marks}

-- how often a number is named, where two stands for more
abbrev pub times_marked : Bool → Bool → ℕ
times_marked false again = 0
times_marked true false = 1
times_marked true true = 2

-- whether a node's number is the root's and named, or another's and not named once
abbrev pub is_misnamed_by : Bool → Bool → ℕ → Bool
is_misnamed_by once again n = is_root_named n (times_marked once again) || is_not_named_once true n (times_marked once again)

-- whether a number is named or reached wrongly, by the marks
abbrev pub is_lost_by : Marks → ℕ → Bool
is_lost_by marks n =
    (let times = times_marked (set.contains marks.naming.once n) (set.contains marks.naming.again n) in
    let used = set.contains marks.used n in
    is_root_named n times || is_unused_named used times || is_not_named_once used n times || (used && not (set.contains marks.reached n)))

-- the least number from 1 to 65,535 that is named or reached wrongly
pub record IsFirstLost (marks : Marks) (number : ℕ) : Type 0 where
  pub from : 1 ≤ number
  pub at_most : number ≤ 65535
  pub lost : is_lost_by marks number ≡ true
  pub before : (n : ℕ) → 1 ≤ n → n < number → is_lost_by marks n ≡ false

-- The marks tell of each number from 1 to 65,535 whether it is named or reached wrongly in what is seen.
abbrev pub TellsLost : Seen → Marks → Type 0
TellsLost s marks = (n : ℕ) → 1 ≤ n → n ≤ 65535 → is_lost_by marks n ≡ is_lost s (numbers_named s s.nodes) (reached_in s (length s.nodes)) n
