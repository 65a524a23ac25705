use Rattle.std.proofs.Common.{map, drop}
use Rattle.place_words.specs.Rising.{Rising}
use Rattle.name_tests.proofs.built.rises.Given as goal

abbrev pub invariant-loop-node : goal.invariant-loop-node
invariant-loop-node l = Rising l.from (map (λ node. node.0) (drop l.node-index l.nodes)) → Rising 0 (map (λ node. node.0) l.nodes)
