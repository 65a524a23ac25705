use Rattle.std.proofs.Common.{◌∙◌, arith}
use Rattle.std.proofs.lemmas.List.{length-set}
use Rattle.volume_load.proofs.NumberLaws.{all_numbers, next_number, small}
use Rattle.volume_load.proofs.numbering.numbered.Goals as goal

pub loop-node-preserved : goal.loop-node-preserved
loop-node-preserved c = record {
  many = length-set c.loop-node.inodes.items _ _ ∙ c.loop-node.invariant.many;
  each = next_number c.args.nodes.now c.loop-node.node-index c.loop-node-test.true c.requires.rising c.requires.within c.loop-node.inodes.items c.loop-node.invariant.many c.loop-node.invariant.each;
}

pub returns-clause-each : goal.returns-clause-each
returns-clause-each c = all_numbers c.args.nodes.now c.loop-node.node-index c.loop-node.inodes.items c.loop-node-test.false c.loop-node.invariant.each

pub index_mut-requires : goal.index_mut-requires
index_mut-requires c =
    omega (arith, small c.args.nodes.now c.requires.within c.loop-node.node-index c.loop-node-test.true, c.loop-node.inodes.ok.0, c.loop-node.invariant.many)
