use Rattle.std.proofs.Common.{arith}
use Rattle.vol_numbers.specs.Geometry.{layout_of}
use Rattle.image_model.specs.Walk.{block_met, inodes_from, nodes_of}
use Rattle.image_walk.proofs.GoingLaws.{walks_err, ends_front}
use Rattle.image_walk.proofs.InodeLaws.{ends_unused, goes_used, added_length}
use Rattle.image_walk.proofs.OrderLaws.{block_grows}
use Rattle.image_walk.proofs.inodes.meet_block.Goals as goal

pub returns-in_err-meet_inodes-clause-walked : goal.returns-in_err-meet_inodes-clause-walked
returns-in_err-meet_inodes-clause-walked c marks =
    walks_err (layout_of c.args.g.now) marks marks (block_met c.args.first (inodes_from 64 c.args.first c.args.block.now.bytes)) c.from_residual.result c.in_err-meet_inodes.field-0.0 c.from_residual.ensures.1
    (ends_front (layout_of c.args.g.now) marks _ _ c.in_err-meet_inodes.field-0.0 (c.in_err-meet_inodes.ensures.walked marks))

pub returns-then-len-before-clause-walked : goal.returns-then-len-before-clause-walked
returns-then-len-before-clause-walked c marks =
    let inodes = inodes_from 64 c.args.first c.args.block.now.bytes in
    let added = added_length c.args.nodes.now.items c.meet_inodes.new.nodes.items (nodes_of inodes) c.in_ok-meet_inodes.ensures.nodes in
    ends_unused (layout_of c.args.g.now) marks c.args.first inodes (omega (arith, added)) (c.in_ok-meet_inodes.ensures.walked marks)

pub returns-clause-walked : goal.returns-clause-walked
returns-clause-walked c marks =
    let inodes = inodes_from 64 c.args.first c.args.block.now.bytes in
    let added = added_length c.args.nodes.now.items c.meet_inodes.new.nodes.items (nodes_of inodes) c.in_ok-meet_inodes.ensures.nodes in
    goes_used (layout_of c.args.g.now) marks c.args.first inodes (λ none. c.if-len-before.false (omega (arith, added, none))) (c.in_ok-meet_inodes.ensures.walked marks)

pub returns-clause-grows : goal.returns-clause-grows
returns-clause-grows c = block_grows (layout_of c.args.g.now) c.args.first c.args.block.now.bytes c.args.nodes.now.items c.meet_inodes.new.nodes.items c.in_ok-meet_inodes.ensures.walked c.in_ok-meet_inodes.ensures.nodes
