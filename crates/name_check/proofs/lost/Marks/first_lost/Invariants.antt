use Rattle.std.proofs.Common.{◌≡◌, ℕ, ◌<◌, ◌≤◌, false}
use Rattle.name_check.specs.Lost.{is_lost_by}
use Rattle.name_check.proofs.lost.Marks.first_lost.Given as goal

abbrev pub invariant-loop-number : goal.invariant-loop-number
invariant-loop-number l = (n : ℕ) → 1 ≤ n → n < l.number → is_lost_by l.self n ≡ false
