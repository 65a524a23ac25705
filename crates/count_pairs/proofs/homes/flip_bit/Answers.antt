use Rattle.count_pairs.proofs.BitLaws.{flipped_bit, other_bits}
use Rattle.count_pairs.proofs.homes.flip_bit.Goals as goal

pub returns-clause-flipped : goal.returns-clause-flipped
returns-clause-flipped c = flipped_bit c.args.bytes.now c.args.i c.requires

pub returns-clause-others : goal.returns-clause-others
returns-clause-others c = other_bits c.args.bytes.now c.args.i c.requires
