use Rattle.std.proofs.Common.{◌<◌, ℕ, get_or}
use Rattle.point_tests.specs.Within.{IsNumberWithin}
use Rattle.point_tests.proofs.held.is_within.Given as goal

abbrev pub invariant-loop-n : goal.invariant-loop-n
invariant-loop-n l = (k d : ℕ) → k < l.n-index → IsNumberWithin l.state (get_or l.n-items k d)
