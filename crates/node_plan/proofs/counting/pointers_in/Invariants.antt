use Rattle.std.proofs.Common.{◌≡◌, ◌≤◌, take, length}
use Rattle.block_tree.specs.Tree.{nonzero}
use Rattle.node_plan.proofs.counting.pointers_in.Given as goal

abbrev pub invariant-loop-ptr : goal.invariant-loop-ptr
invariant-loop-ptr l = (l.count ≡ length (nonzero (take l.ptr-index l.ptrs))) × (l.count ≤ l.ptr-index)
