use Rattle.std.proofs.Common.{ℕ, ◌<◌}
use Rattle.vol_numbers.specs.Geometry.{layout_of}
use Rattle.inode_file.specs.Loading.{IsWhole}
use Rattle.volume_load.proofs.NumberLaws.{node_in}
use Rattle.volume_load.proofs.known.outside.Given as goal

abbrev pub invariant-loop-node : goal.invariant-loop-node
invariant-loop-node l = (k : ℕ) → k < l.node-index → IsWhole (layout_of l.g) (node_in l.nodes k).1
