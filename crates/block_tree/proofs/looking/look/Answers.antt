use Rattle.std.proofs.Common.{◌≡◌, ◌/◌, arith}
use Rattle.block_tree.specs.Tree.{blocks_in}
use Rattle.block_tree.specs.Causes.{IsBlockOf}
use Rattle.block_tree.proofs.DamageLaws.{look_damaged, leaf_among, block_like}
use Rattle.block_tree.proofs.looking.look.Goals as goal

pub returns-clause-among : goal.returns-clause-among
returns-clause-among g c b is tells =
    let read = blocks_in (g.D.Disk.state c.args.disk.now).contents in
    let root = c.args.root.now in
    let two : root.height ≡ 2 = omega arith in
    let of = look_damaged c.entry-3.result (IsBlockOf c.in_ok-leaf.leaf) b c.entry-3.ensures.read is in
    rw two (leaf_among read 2 root.ptr (c.args.place / 1024) b (block_like (c.in_ok-leaf.ensures.found tells) of))
