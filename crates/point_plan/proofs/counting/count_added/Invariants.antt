use Rattle.std.proofs.Common.{◌≡◌, ◌<◌, ◌≤◌, ◌+◌, ◌^◌, ℕ, length, take, slice_index}
use Rattle.count_pairs.specs.Homes.{Blocks}
use Rattle.count_pairs.specs.Table.{IsKept}
use Rattle.std.proofs.Common.{List}
use Rattle.place_words.specs.Different.{times}
use Rattle.point_plan.proofs.counting.count_added.Given as goal

abbrev pub invariant-loop-b : goal.invariant-loop-b
invariant-loop-b l = record {
  counted : (b : ℕ) → b < length l.fn.counts.counts → (1 ≤ times b (take l.b-index l.added) → slice_index l.fn.counts.counts b + times b (take l.b-index l.added) < 2 ^ 32)
      → slice_index l.counts.counts b ≡ slice_index l.fn.counts.counts b + times b (take l.b-index l.added);
  long : length l.counts.counts ≡ length l.fn.counts.counts;
  touched : length l.counts.touched ≡ length l.fn.counts.touched;
  kept : (read : Blocks) (homes : List ℕ) → IsKept read homes l.fn.counts → IsKept read homes l.counts;
}
