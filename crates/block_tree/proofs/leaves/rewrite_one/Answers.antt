use Rattle.std.proofs.Common.{refl, subst, arith, List}
use Rattle.vol_numbers.specs.Geometry.{layout_of}
use Rattle.vol_numbers.specs.declared.runs.Change.{Change}
use Rattle.block_tree.specs.Notes.{Uses}
use Rattle.block_tree.specs.Edit.{portion}
use Rattle.block_tree.specs.Room.{leaf_room}
use Rattle.block_tree.proofs.LeafLaws.{leaf_is_rewritten, leaf_untouched, takes_none}
use Rattle.block_tree.proofs.UseLaws.{uses_none}
use Rattle.block_tree.proofs.SoundLaws.{lead_portion}
use Rattle.block_tree.proofs.UntouchedLaws.{needs_room, room_kept}
use Rattle.block_tree.proofs.leaves.rewrite_one.Goals as goal

pub returns-then-not-is_gone_over-clause-rewritten : goal.returns-then-not-is_gone_over-clause-rewritten
returns-then-not-is_gone_over-clause-rewritten g c tells = leaf_untouched c.args.k c.args.leaf c.args.notes.now c.portion_of-part.ensures (c.if-not-is_gone_over.ensures refl)

pub returns-then-not-is_gone_over-clause-takes : goal.returns-then-not-is_gone_over-clause-takes
returns-then-not-is_gone_over-clause-takes g c = takes_none c.args.notes.now c.args.notes.now refl refl

pub returns-then-not-is_gone_over-clause-uses : goal.returns-then-not-is_gone_over-clause-uses
returns-then-not-is_gone_over-clause-uses g c = uses_none (portion c.args.k c.args.edit.now.changes.now) c.args.notes.now c.args.notes.now refl refl

pub rewrite_leaf-requires : goal.rewrite_leaf-requires
rewrite_leaf-requires g c = record {
  free = λ needs.
      let edits = c.edited-index.ensures.edit c.args.edit.now.changes.now c.portion_of-part.ensures in
      let room = needs_room c.args.edit.now.changes.now c.args.edit.now.cut_to c.args.k c.args.leaf c.in_ok-was.was'.ptrs c.edited-index.result.ptrs edits (omega arith) (omega arith) c.in_ok-was.ensures.hole needs in
      omega (arith, room, c.requires.free);
}

pub returns-clause-rewritten : goal.returns-clause-rewritten
returns-clause-rewritten g c tells =
    leaf_is_rewritten (c.in_ok-was.ensures.entries tells)
    (c.in_ok-new.ensures.edited c.args.edit.now.changes.now c.args.edit.now.cut_to c.args.k (c.edited-index.ensures.edit c.args.edit.now.changes.now c.portion_of-part.ensures))

pub returns-clause-room : goal.returns-clause-room
returns-clause-room g c =
    room_kept (leaf_room c.args.edit.now.changes.now c.args.edit.now.cut_to c.args.k) c.args.notes.now.free c.rewrite_leaf.new.notes.free c.in_ok-new.ensures.at_most
    (needs_room c.args.edit.now.changes.now c.args.edit.now.cut_to c.args.k c.args.leaf c.in_ok-was.was'.ptrs c.edited-index.result.ptrs (c.edited-index.ensures.edit c.args.edit.now.changes.now c.portion_of-part.ensures) (omega arith)
    (omega arith) c.in_ok-was.ensures.hole)
    c.in_ok-new.ensures.spares

pub returns-clause-uses : goal.returns-clause-uses
returns-clause-uses g c = subst (λ (cs : List Change). Uses cs c.args.notes.now c.rewrite_leaf.new.notes) c.portion_of-part.ensures (c.in_ok-new.ensures.uses c.portion_of-part.result.now c.edited-index.ensures.brings)

pub returns-clause-sound : goal.returns-clause-sound
returns-clause-sound g c lead sound =
    c.in_ok-new.ensures.sound (layout_of c.args.g.now)
    (c.edited-index.ensures.pointers (layout_of c.args.g.now) c.in_ok-was.ensures.pointers (lead_portion (layout_of c.args.g.now) c.args.k c.args.edit.now.changes.now c.portion_of-part.result.now c.portion_of-part.ensures lead)) c.requires.leaf
    sound
