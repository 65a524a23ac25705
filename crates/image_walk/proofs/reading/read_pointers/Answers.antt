use Rattle.std.proofs.Common.{◌∙◌, ap, sym, arith}
use Rattle.block_format.specs.Words.{words}
use Rattle.block_tree.specs.Tree.{blocks_in}
use Rattle.block_tree.proofs.EntryLaws.{index_there}
use Rattle.image_walk.proofs.reading.read_pointers.Goals as goal

pub returns-clause-pointers : goal.returns-clause-pointers
returns-clause-pointers g c tells =
    let contents = (g.D.Disk.state c.args.disk.now).contents in
    index_there (blocks_in contents) c.args.at c.read_counts.result (λ e. omega (arith, c.requires.at.0, e)) (ap words (c.in_ok-block.ensures.bytes tells) ∙ sym c.read_counts.ensures.counts) (omega arith)
