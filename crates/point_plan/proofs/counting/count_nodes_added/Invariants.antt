use Rattle.std.proofs.Common.{◌≡◌, ◌<◌, ◌≤◌, ◌+◌, ◌^◌, ℕ, List, length, drop, slice_index}
use Rattle.count_pairs.specs.Homes.{Blocks}
use Rattle.count_pairs.specs.Table.{IsKept}
use Rattle.place_words.specs.Different.{times}
use Rattle.point_plan.specs.Nodes.{all_added}
use Rattle.point_plan.proofs.counting.count_nodes_added.Given as goal

abbrev pub invariant-loop-node : goal.invariant-loop-node
invariant-loop-node l = record {
  counted : (b : ℕ) → b < length l.fn.counts.counts → (1 ≤ times b (all_added l.nodes) → slice_index l.fn.counts.counts b + times b (all_added l.nodes) < 2 ^ 32)
      → slice_index l.counts.counts b + times b (all_added (drop l.node-index l.nodes)) ≡ slice_index l.fn.counts.counts b + times b (all_added l.nodes);
  long : length l.counts.counts ≡ length l.fn.counts.counts;
  touched : length l.counts.touched ≡ length l.fn.counts.touched;
  kept : (read : Blocks) (homes : List ℕ) → IsKept read homes l.fn.counts → IsKept read homes l.counts;
}
