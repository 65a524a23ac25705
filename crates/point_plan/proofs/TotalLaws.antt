-- There are few planned nodes.
use Rattle.std.proofs.Common.{◌≤◌, ℕ, ◌+◌, List, [], ◌∷◌, length, arith}
use Rattle.point_plan.specs.Nodes.{Ascend}
use Rattle.point_plan.specs.declared.planned_node.PlannedNode.{PlannedNode}

below : (least : ℕ) (nodes : List PlannedNode) → least ≤ 65536 → Ascend least nodes → least + length nodes ≤ 65536
below least [] le ascend = omega (arith, le)
below least (p ∷ ps) le ascend =
    let first = ascend.0 in
    let lt = ascend.1 in
    omega (arith, first, below (p.number + 1) ps (omega (arith, lt)) ascend.2)

pub few_nodes : (nodes : List PlannedNode) → Ascend 1 nodes → length nodes ≤ 65536
few_nodes nodes ascend = omega (arith, below 1 nodes (omega arith) ascend)
