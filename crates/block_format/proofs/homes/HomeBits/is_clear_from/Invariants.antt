use Rattle.std.proofs.Common.{◌≡◌, ℕ, ◌<◌, ◌≤◌}
use Rattle.block_format.specs.Homes.{home_bit}
use Rattle.block_format.proofs.homes.HomeBits.is_clear_from.Given as goal

-- no bit was set up to here
abbrev pub invariant-loop-i : goal.invariant-loop-i
invariant-loop-i l = (k : ℕ) → k < l.i → l.first ≤ k → home_bit l.self.bytes k ≡ 0
