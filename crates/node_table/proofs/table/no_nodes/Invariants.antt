use Rattle.std.proofs.Common.{◌≡◌, ℕ, length, None, get_or}
use Rattle.node_table.proofs.table.no_nodes.Given as goal

abbrev pub invariant-loop-number : goal.invariant-loop-number
invariant-loop-number l = record {
  places : length l.nodes.items ≡ l._number;
  none : (k : ℕ) → get_or l.nodes.items k None ≡ None;
}
