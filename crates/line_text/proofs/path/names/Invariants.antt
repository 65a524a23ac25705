use Rattle.std.proofs.Common.{◌≡◌, ◌≤◌, ◌+◌, ◌++◌, ℕ, true, Option, Some, None, List, length}
use Rattle.std.specs.List.{list_all}
use Rattle.std.specs.Borrow.{Bor}
use Rattle.line_text.specs.Paths.{is_name, names_in}
use Rattle.line_text.proofs.PathLemmas.{names_left}
use Rattle.line_text.proofs.path.names.Given as goal

abbrev size_left : Option (Bor (List ℕ)) → ℕ
size_left None = 0
size_left (Some rest) = length rest.now + 1

-- the names so far, and those that are left
pub record NamesSoFar (all names left : List (List ℕ)) : Type 0 where
  pub whole : all ≡ names ++ left
  pub each : list_all is_name names ≡ true
  pub few : length names ≤ 32

abbrev pub invariant-loop-rest : goal.invariant-loop-rest
invariant-loop-rest l = NamesSoFar (names_in l.fn.field) l.names.items (names_left l.rest)

abbrev pub decreases-loop-rest : goal.decreases-loop-rest
decreases-loop-rest l = size_left l.rest
