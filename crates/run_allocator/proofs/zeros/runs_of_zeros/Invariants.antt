use Rattle.std.proofs.Common.{◌≡◌, ◌≤◌, ◌+◌, drop, length}
use Rattle.run_allocator.specs.Runs.{AreApart, numbers_of, zeros_from}
use Rattle.run_allocator.proofs.zeros.runs_of_zeros.Given as goal

abbrev pub invariant-loop-b : goal.invariant-loop-b
invariant-loop-b l = record {
  numbers : numbers_of l.runs.items ≡ zeros_from l.b (drop l.b l.counts);
  apart : AreApart l.b l.runs.items;
  free : l.free ≡ length (numbers_of l.runs.items);
  few : l.free + l.b ≤ 65536;
  start : l.start ≤ l.b;
  within : l.b ≤ length l.counts;
}
