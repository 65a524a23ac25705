use Rattle.std.proofs.Common.{◌≤◌, ◌+◌, ◌-◌, ℕ, length, drop}
use Rattle.run_allocator.specs.Runs.{numbers_of}
use Rattle.run_allocator.specs.Order.{AreWhole}
use Rattle.run_allocator.proofs.order.whole_runs.Given as goal

-- whatever follows
abbrev pub invariant-loop-left : goal.invariant-loop-left
invariant-loop-left l = record {
  whole : (k left : ℕ) → AreWhole (drop l.runs l.order) l.left k left → AreWhole l.order l.fn.n (l.runs + k) left;
  some : 1 ≤ l.left;
  enough : l.left ≤ length (numbers_of (drop l.runs l.order));
}

abbrev pub decreases-loop-left : goal.decreases-loop-left
decreases-loop-left l = length l.order - l.runs
