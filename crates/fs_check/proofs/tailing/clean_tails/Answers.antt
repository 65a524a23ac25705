use Rattle.std.proofs.Common.{◌∙◌, List, sym, ap, subst, arith}
use Rattle.std.specs.Prelude.{option_map}
use Rattle.block_tree.specs.Tree.{blocks_in}
use Rattle.image_model.specs.declared.finding.Finding.TheVariants.{BadTail}
use Rattle.image_walk.specs.Left.{SeesEnds}
use Rattle.image_walk.specs.declared.node_block.NodeBlock.{NodeBlock}
use Rattle.image_walk.specs.Reads.{file_count}
use Rattle.fs_check.proofs.tailing.clean_tails.Goals as goal

pub returns-in-Some-clause-found : goal.returns-in-Some-clause-found
returns-in-Some-clause-found g c tells s sees =
    let read = blocks_in (g.D.Disk.state c.args.disk.now).contents in
    sym (c.in_ok-found.ensures.found tells s (sees.nodes ∙ sym c.as_slice.ensures) (subst (λ (ls : List NodeBlock). SeesEnds read ls s) (sym c.as_slice-2.ensures) sees.ends))
    ∙ ap (option_map (λ n. BadTail n)) c.in-Some.is

pub returns-in-None-clause-found : goal.returns-in-None-clause-found
returns-in-None-clause-found g c tells s sees =
    let read = blocks_in (g.D.Disk.state c.args.disk.now).contents in
    sym (c.in_ok-found.ensures.found tells s (sees.nodes ∙ sym c.as_slice.ensures) (subst (λ (ls : List NodeBlock). SeesEnds read ls s) (sym c.as_slice-2.ensures) sees.ends))
    ∙ ap (option_map (λ n. BadTail n)) c.in-None.is

pub returns-in-None-clause-reads : goal.returns-in-None-clause-reads
returns-in-None-clause-reads g c = omega (arith, c.in_ok-found.ensures.reads, ap file_count c.as_slice.ensures)
