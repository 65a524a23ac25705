use Rattle.name_check.proofs.LostLaws.{used_more}
use Rattle.name_check.proofs.ReachLaws.{nothing_reached}
use Rattle.block_format.specs.declared.inode.Inode.TheVariants.{Unused}
use Rattle.name_check.proofs.lost.used_numbers.Goals as goal

pub loop-node-init : goal.loop-node-init
loop-node-init c n at_most = nothing_reached c.in_ok-used.used c.in_ok-used.ensures n

pub loop-node-preserved : goal.loop-node-preserved
loop-node-preserved c n at_most =
    used_more c.args.nodes.now c.loop-node.node-index (0, Unused) c.loop-node.used c.mark_used.new.used n c.requires c.loop-node-test.true
    (c.mark_used.ensures n at_most) (c.loop-node.invariant n at_most)
