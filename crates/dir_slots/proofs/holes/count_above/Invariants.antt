use Rattle.std.proofs.Common.{◌<◌, ◌≤◌, ◌-◌, ℕ, length}
use Rattle.std.specs.Prelude.{slice_index}
use Rattle.dir_slots.proofs.holes.count_above.Given as goal

abbrev pub invariant-loop-low : goal.invariant-loop-low
invariant-loop-low l = record {
  high : l.high ≤ length l.holes;
  low : l.low ≤ l.high;
  above : (k : ℕ) → k < l.low → l.slot < slice_index l.holes k;
  below : (k : ℕ) → l.high ≤ k → k < length l.holes → slice_index l.holes k ≤ l.slot;
}

abbrev pub decreases-loop-low : goal.decreases-loop-low
decreases-loop-low l = l.high - l.low
