use Rattle.block_tree.proofs.LeafLaws.{takes_then}
use Rattle.block_tree.proofs.UseLaws.{uses_then}
use Rattle.block_tree.specs.Tree.{blocks_in}
use Rattle.vol_numbers.specs.Geometry.{layout_of}
use Rattle.block_tree.proofs.rewriting.rewrite_tree.Goals as goal

pub returns-clause-rewritten : goal.returns-clause-rewritten
returns-clause-rewritten g c tells =
    let edit = c.args.edit.now in
    c.in_ok-ptr-2.ensures.rewritten (blocks_in (g.D.Disk.state c.args.disk.now).contents) c.args.root.now edit.changes.now edit.cut_to c.args.notes.now (c.in_ok-made.ensures.leaves tells) (c.in_ok-made.ensures.in_turn tells) (c.requires.fits tells) c.requires.changes

pub returns-clause-takes : goal.returns-clause-takes
returns-clause-takes g c = takes_then c.in_ok-made.ensures.takes c.in_ok-ptr-2.ensures.takes

pub returns-clause-uses : goal.returns-clause-uses
returns-clause-uses g c = uses_then c.in_ok-made.ensures.uses c.in_ok-ptr-2.ensures.uses

pub returns-clause-sound : goal.returns-clause-sound
returns-clause-sound g c lead sound =
    let made = c.in_ok-made.ensures.sound lead sound in
    c.in_ok-ptr-2.ensures.sound (layout_of c.args.g.now) made.1 made.2 made.0
