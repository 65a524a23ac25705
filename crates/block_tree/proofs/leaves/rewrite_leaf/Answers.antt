use Rattle.std.proofs.Common.{arith}
use Rattle.block_tree.proofs.LeafLaws.{leaf_is_edited, takes_noted}
use Rattle.block_tree.proofs.UseLaws.{uses_noted}
use Rattle.block_tree.proofs.SoundLaws.{sound_same}
use Rattle.block_tree.proofs.leaves.rewrite_leaf.Goals as goal

pub returns-clause-edited : goal.returns-clause-edited
returns-clause-edited c changes cut k edits = leaf_is_edited (omega arith) edits c.in_ok-new.ensures c.in_ok-note.ensures (omega arith)

pub returns-clause-takes : goal.returns-clause-takes
returns-clause-takes c = takes_noted c.in_ok-new.ensures.takes c.in_ok-note.ensures

pub returns-clause-uses : goal.returns-clause-uses
returns-clause-uses c changes brings = uses_noted c.in_ok-new.ensures.uses c.in_ok-note.ensures changes brings

pub returns-clause-sound : goal.returns-clause-sound
returns-clause-sound c g all leaf sound =
    let made = c.in_ok-new.ensures.sound g all leaf sound in
    (sound_same g c.renew.new.notes c.note.new.notes c.in_ok-note.ensures.pages c.in_ok-note.ensures.free made.0, made.1)
