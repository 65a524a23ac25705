use Rattle.std.proofs.Common.{◌≡◌, Bool, true, false, below_more, refl}
use Rattle.std.specs.Prelude.{not}
use Rattle.vol_numbers.specs.Geometry.{layout_of}
use Rattle.volume_load.proofs.NumberLaws.{all_whole}
use Rattle.volume_load.proofs.known.outside.Goals as goal

is_true : (b : Bool) → not b ≡ false → b ≡ true
is_true true e = refl
is_true false e = cc

pub loop-node-preserved : goal.loop-node-preserved
loop-node-preserved c = below_more _ _ c.loop-node.invariant (c.is_whole.ensures.0 (let is = c.if-not-is_whole.false in first_of (assumption is, search (is_true, is))))

pub returns : goal.returns
returns c = all_whole (layout_of c.args.g.now) c.args.nodes.now c.loop-node.node-index c.loop-node-test.false c.loop-node.invariant
