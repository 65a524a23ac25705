use Rattle.std.proofs.Common.{◌≡◌, drop}
use Rattle.std.specs.Prelude.{◌==◌}
use Rattle.std.specs.List.{list_all}
use Rattle.name_check.proofs.tail_check.are_zeros.Given as goal

abbrev pub invariant-loop-i : goal.invariant-loop-i
invariant-loop-i l = list_all (λ b. b == 0) (drop l.i l.bytes) ≡ list_all (λ b. b == 0) (drop l.from l.bytes)
