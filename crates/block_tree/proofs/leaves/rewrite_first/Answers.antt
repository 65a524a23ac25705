use Rattle.std.proofs.Common.{◌≡◌, List, subst, arith}
use Rattle.vol_numbers.specs.Geometry.{layout_of}
use Rattle.vol_numbers.specs.declared.runs.Change.{Change}
use Rattle.block_tree.specs.Tree.{blocks_in}
use Rattle.block_tree.specs.Notes.{Uses}
use Rattle.block_tree.proofs.EntryLaws.{one_is_pointer}
use Rattle.block_tree.proofs.LeafLaws.{first_made, first_kept}
use Rattle.block_tree.proofs.OpeningLaws.{one_same, first_moved, first_there}
use Rattle.block_tree.proofs.SoundLaws.{lead_portion}
use Rattle.block_tree.proofs.leaves.rewrite_first.Goals as goal

pub returns-then-root-gt0-clause-rewritten : goal.returns-then-root-gt0-clause-rewritten
returns-then-root-gt0-clause-rewritten g c tells =
    let read = blocks_in (g.D.Disk.state c.args.disk.now).contents in
    rw (first_there read c.args.root.now c.args.leaf (omega (arith, c.if-root-gt0.true))) (first_kept c.args.leaf (c.in_ok-kept.ensures.rewritten tells))

pub returns-clause-rewritten : goal.returns-clause-rewritten
returns-clause-rewritten g c tells =
    let read = blocks_in (g.D.Disk.state c.args.disk.now).contents in
    let root = c.args.root.now in
    let low : root.height ≡ 0 = omega arith in
    let edits = c.edited-index.ensures.edit c.args.edit.now.changes.now c.portion_of.ensures in
    rw (first_moved read root c.args.leaf low)
    (first_made c.args.leaf (c.requires.hole low) (rw c.one_pointer-was.ensures (one_same root.ptr 1023)) (c.in_ok-new.ensures.edited c.args.edit.now.changes.now c.args.edit.now.cut_to 0 edits))

pub returns-clause-uses : goal.returns-clause-uses
returns-clause-uses g c = subst (λ (cs : List Change). Uses cs c.args.notes.now c.rewrite_leaf.new.notes) c.portion_of.ensures (c.in_ok-new.ensures.uses c.portion_of.result.now c.edited-index.ensures.brings)

pub returns-clause-sound : goal.returns-clause-sound
returns-clause-sound g c lead sound =
    let layout = layout_of c.args.g.now in
    c.in_ok-new.ensures.sound layout
    (c.edited-index.ensures.pointers layout (rw c.one_pointer-was.ensures (λ k d. one_is_pointer layout c.args.root.now.ptr 1023 k d c.requires.root)) (lead_portion layout 0 c.args.edit.now.changes.now c.portion_of.result.now c.portion_of.ensures lead))
    c.requires.leaf sound
