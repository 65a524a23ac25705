use Rattle.std.proofs.Common.{◌∙◌, List, ℕ, length, map, arith, ap, sym, subst}
use Rattle.place_words.specs.Rising.{Rising}
use Rattle.place_words.proofs.Rising.{rising_less}
use Rattle.block_format.specs.declared.inode.Inode.{Inode}
use Rattle.block_tree.specs.Tree.{blocks_in}
use Rattle.held_list.specs.declared.held.Held.{Held}
use Rattle.image_walk.specs.Left.{HaveWidths}
use Rattle.image_walk.specs.Blocks.{blocks_held}
use Rattle.name_check.specs.Seeing.{HaveSlots, directory_numbers}
use Rattle.fs_check.specs.Faults.{of_names}
use Rattle.fs_check.proofs.CauseLaws.{cause_err, name_cause}
use Rattle.fs_check.proofs.PhaseLaws.{phase_err, directory_by}
use Rattle.image_walk.specs.declared.node_block.NodeBlock.{NodeBlock}
use Rattle.fs_check.proofs.naming.good_directories.Goals as goal

pub directories-requires-clause-nodes : goal.directories-requires-clause-nodes
directories-requires-clause-nodes g c =
    subst (λ (ns : List (ℕ × Inode)). Rising 0 (map (λ (node : ℕ × Inode). node.0) ns)) (sym c.as_slice.ensures) (rising_less 0 1 (omega arith) _ c.requires.numbers)

pub returns-in_err-held-clause-found : goal.returns-in_err-held-clause-found
returns-in_err-held-clause-found g c tells s sees =
    let read = blocks_in (g.D.Disk.state c.args.disk.now).contents in
    let fault = c.in_err-held.field-0.0 in
    phase_err _ _ (of_names fault) c.from_residual.ensures.1
    (directory_by s fault (c.in_err-held.ensures.found tells s (sees.nodes ∙ sym c.as_slice.ensures) (sees.pages ∙ ap (blocks_held read) (sym c.as_slice-2.ensures))))

pub returns-in_err-held-clause-cause : goal.returns-in_err-held-clause-cause
returns-in_err-held-clause-cause g c =
    let fault = c.in_err-held.field-0.0 in
    cause_err _ _ _ (of_names fault) c.from_residual.ensures.1 (name_cause (List Held) _ _ fault c.in_err-held.ensures.cause)

pub returns-clause-found : goal.returns-clause-found
returns-clause-found g c tells s sees =
    let read = blocks_in (g.D.Disk.state c.args.disk.now).contents in
    c.in_ok-held.ensures.none tells s (sees.nodes ∙ sym c.as_slice.ensures) (sees.pages ∙ ap (blocks_held read) (sym c.as_slice-2.ensures))

pub returns-clause-holds : goal.returns-clause-holds
returns-clause-holds g c tells s sees =
    let read = blocks_in (g.D.Disk.state c.args.disk.now).contents in
    c.in_ok-held.ensures.held tells s (sees.nodes ∙ sym c.as_slice.ensures) (sees.pages ∙ ap (blocks_held read) (sym c.as_slice-2.ensures)) sees.owners

pub returns-clause-are : goal.returns-clause-are
returns-clause-are g c = record {
  rising = c.requires.numbers;
  each = c.requires.within;
  root = c.requires.root;
  numbers = c.in_ok-held.ensures.numbers ∙ ap directory_numbers c.as_slice.ensures;
  widths = subst (λ (ns : List (ℕ × Inode)). HaveSlots ns c.in_ok-held.held) c.as_slice.ensures c.in_ok-held.ensures.widths;
}

pub directories-requires-clause-widths : goal.directories-requires-clause-widths
directories-requires-clause-widths g c = subst HaveWidths (sym c.as_slice.ensures) c.requires.widths

pub returns-clause-reads : goal.returns-clause-reads
returns-clause-reads g c = omega (arith, c.in_ok-held.ensures.reads, ap (λ (pages : List NodeBlock). length pages) c.as_slice-2.ensures)
