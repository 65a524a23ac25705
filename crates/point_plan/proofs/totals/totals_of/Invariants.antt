use Rattle.std.proofs.Common.{◌≡◌, ◌≤◌, ◌+◌, ◌*◌, drop}
use Rattle.point_plan.specs.Gathered.{metadata_given, metadata_had}
use Rattle.point_plan.proofs.totals.totals_of.Given as goal

abbrev pub invariant-loop-node : goal.invariant-loop-node
invariant-loop-node l = record {
  had : l.had + metadata_had (drop l.node-index l.nodes) ≡ metadata_had l.nodes;
  given : l.given + metadata_given (drop l.node-index l.nodes) ≡ metadata_given l.nodes;
  had_most : l.had ≤ 4294967295 * l.node-index;
  given_most : l.given ≤ 4294967295 * l.node-index;
}
