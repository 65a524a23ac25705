use Rattle.std.proofs.Common.{ap, arith}
use Rattle.vol_numbers.specs.Geometry.{layout_of}
use Rattle.block_tree.specs.Tree.{blocks_in}
use Rattle.image_walk.specs.Reads.{metadata_count}
use Rattle.image_walk.proofs.NodeLaws.{file_over, directory_over}
use Rattle.image_walk.proofs.ReadsLaws.{passed_on, file_met, directory_met}
use Rattle.image_walk.proofs.trees.walk_node.Goals as goal

pub returns-in-File-clause-walked : goal.returns-in-File-clause-walked
returns-in-File-clause-walked g c tells =
    file_over (layout_of c.args.g.now) (blocks_in (g.D.Disk.state c.args.disk.now).contents) c.args.reached.now c.walk_tree.new.reached c.args.node.now c.in-File.size c.in-File.height c.in-File.ptr c.div_ceil.result c.walk_tree.result
    c.in-File.is (omega (arith, c.div_ceil.ensures)) (c.walk_tree.ensures.walked tells)

pub returns-in-Directory-clause-walked : goal.returns-in-Directory-clause-walked
returns-in-Directory-clause-walked g c tells =
    directory_over (layout_of c.args.g.now) (blocks_in (g.D.Disk.state c.args.disk.now).contents) c.args.reached.now c.walk_tree-in-Directory.new.reached c.args.node.now c.in-Directory.width c.in-Directory.height c.in-Directory.ptr c.div_ceil-in-Directory.result c.walk_tree-in-Directory.result
    c.in-Directory.is (omega (arith, c.div_ceil-in-Directory.ensures, c.from.ensures)) (c.walk_tree-in-Directory.ensures.walked tells)

pub returns-in-File-clause-reads : goal.returns-in-File-clause-reads
returns-in-File-clause-reads g c =
    let read = blocks_in (g.D.Disk.state c.args.disk.now).contents in
    let same = ap metadata_count (file_met read c.args.node.now c.in-File.size c.in-File.height c.in-File.ptr c.div_ceil.result c.in-File.is (omega (arith, c.div_ceil.ensures))) in
    passed_on c.walk_tree.result _ _ c.walk_tree.ensures.reads (λ reads tells. let below = reads tells in omega (arith, below, same))

pub returns-in-Directory-clause-reads : goal.returns-in-Directory-clause-reads
returns-in-Directory-clause-reads g c =
    let read = blocks_in (g.D.Disk.state c.args.disk.now).contents in
    let same = ap metadata_count (directory_met read c.args.node.now c.in-Directory.width c.in-Directory.height c.in-Directory.ptr c.div_ceil-in-Directory.result c.in-Directory.is (omega (arith, c.div_ceil-in-Directory.ensures, c.from.ensures))) in
    passed_on c.walk_tree-in-Directory.result _ _ c.walk_tree-in-Directory.ensures.reads (λ reads tells. let below = reads tells in omega (arith, below, same))
