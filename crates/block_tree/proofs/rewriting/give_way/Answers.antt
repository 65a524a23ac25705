use Rattle.std.proofs.Common.{◌∙◌, List, [], ◌∷◌, refl, ap, sym, subst, arith}
use Rattle.vol_numbers.specs.Geometry.{layout_of}
use Rattle.vol_numbers.specs.declared.runs.Change.{Change}
use Rattle.block_tree.specs.Tree.{blocks_in}
use Rattle.block_tree.specs.Notes.{Noted, Settles, Uses}
use Rattle.block_tree.specs.Opened.{first_of}
use Rattle.block_tree.proofs.NoteLaws.{settles_beside}
use Rattle.block_tree.proofs.LeafLaws.{settles_like, nonzero-cons}
use Rattle.block_tree.proofs.ClosingLaws.{settles_remove}
use Rattle.block_tree.proofs.UseLaws.{uses_none, uses_noted}
use Rattle.block_tree.proofs.SoundLaws.{lead_portion}
use Rattle.block_tree.proofs.rewriting.give_way.Goals as goal

pub returns-clause-given : goal.returns-clause-given
returns-clause-given g c tells =
    let read = blocks_in (g.D.Disk.state c.args.disk.now).contents in
    let leaf = c.args.leaf in
    let first = first_of read c.args.root.now leaf in
    let was = c.in_ok-was.was'.ptrs in
    let ptrs = c.edited-index.result.ptrs in
    let same = c.in_ok-was.ensures.entries tells in
    let without : Settles (leaf ∷ []) [] c.args.notes.now c.remove.new.self = rw c.in_ok-remove.ensures (settles_remove leaf c.args.notes.now) in
    let begun : Settles (leaf ∷ was) ptrs c.args.notes.now c.note.new.notes = settles_beside without c.in_ok-note.ensures.settles in
    record {
      ptrs = ptrs;
      long = omega arith;
      is = refl;
      places = λ old before. c.edited-index.ensures.edit c.args.edit.now.changes.now c.portion_of.ensures old (λ i lt. sym (same.each i) ∙ before i lt);
      settles = settles_like (nonzero-cons leaf was first (sym same.some)) refl begun;
    }

pub returns-clause-pages : goal.returns-clause-pages
returns-clause-pages g c = c.in_ok-note.ensures.pages ∙ ap (λ (n : Noted). n.pages) c.in_ok-remove.ensures

pub returns-clause-free : goal.returns-clause-free
returns-clause-free g c = c.in_ok-note.ensures.free ∙ ap (λ (n : Noted). n.free) c.in_ok-remove.ensures

pub returns-clause-uses : goal.returns-clause-uses
returns-clause-uses g c =
    let removed = uses_none [] c.args.notes.now c.remove.new.self (ap (λ (n : Noted). n.pages) c.in_ok-remove.ensures) (ap (λ (n : Noted). n.added) c.in_ok-remove.ensures) in
    subst (λ (cs : List Change). Uses cs c.args.notes.now c.note.new.notes) c.portion_of.ensures (uses_noted removed c.in_ok-note.ensures c.portion_of.result.now c.edited-index.ensures.brings)

pub returns-clause-pointer : goal.returns-clause-pointer
returns-clause-pointer g c lead =
    let layout = layout_of c.args.g.now in
    c.edited-index.ensures.pointers layout c.in_ok-was.ensures.pointers (lead_portion layout 0 c.args.edit.now.changes.now c.portion_of.result.now c.portion_of.ensures lead) 0 0 (omega arith)
