use Rattle.std.proofs.Common.{◌∙◌, sym, ap, subst, List, [], ◌∷◌}
use Rattle.vol_numbers.specs.Geometry.{layout_of}
use Rattle.block_format.specs.Inode.{pointer_of}
use Rattle.block_format.specs.declared.inode.Inode.{Inode}
use Rattle.image_model.specs.Met.{Met, stray}
use Rattle.image_walk.specs.Going.{Walks}
use Rattle.image_walk.proofs.InodeLaws.{good_outside, wrong_some, bad_stray}
use Rattle.image_walk.proofs.inodes.meet_bad.Goals as goal

pub returns-in-Some-clause-walked : goal.returns-in-Some-clause-walked
returns-in-Some-clause-walked c marks =
    let n = c.args.n in
    let bytes = c.args.bytes.now in
    let wrong = wrong_some n bytes c.in-Some.inode c.if-n-eq0.false c.in-Some.ensures in
    subst (λ (ms : List Met). Walks (layout_of c.args.g.now) marks marks ms c.meet_stray.result)
    (sym (bad_stray n bytes (good_outside n bytes c.requires.outside) wrong.0 ∙ ap (λ (x : Inode). stray n (pointer_of x) ∷ []) (sym wrong.1)))
    (c.meet_stray.ensures.walked marks)
