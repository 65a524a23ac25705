use Rattle.vol_numbers.specs.Geometry.{layout_of}
use Rattle.image_walk.specs.Inodes.{Taken}
use Rattle.image_walk.proofs.inodes.meet_inodes.Given as goal

abbrev pub invariant-loop-k : goal.invariant-loop-k
invariant-loop-k l = record { taken : Taken (layout_of l.g) l.block.bytes l.first l.k l.fn.nodes.items l.nodes.items }
