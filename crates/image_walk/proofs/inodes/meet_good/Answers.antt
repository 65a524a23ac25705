use Rattle.std.proofs.Common.{◌≡◌, ◌∙◌, sym, false}
use Rattle.std.specs.Prelude.{◌==◌, ◌&&◌}
use Rattle.image_model.specs.Walk.{is_used}
use Rattle.image_walk.proofs.InodeLaws.{goes_good, not_zero_used, unused_number}
use Rattle.image_walk.proofs.inodes.meet_good.Goals as goal
use Rattle.image_walk.proofs.inodes.meet_good.Goals.{else-n-eq0-via-then-n-eq0+else-is_used, else-n-eq0-via-else-n-eq0}

pub returns-clause-walked : goal.returns-clause-walked
returns-clause-walked c g bytes is marks =
    let fine : (c.args.n == 0 && is_used c.args.inode) ≡ false = elim c.else-n-eq0.branch [
      | else-n-eq0-via-then-n-eq0+else-is_used w ↦ unused_number c.args.n (is_used c.args.inode) (sym w.is_used.ensures ∙ w.if-is_used.false)
      | else-n-eq0-via-else-n-eq0 w ↦ not_zero_used c.args.n (is_used c.args.inode) w.if-n-eq0.false
    ] in
    goes_good g marks c.args.n bytes c.args.inode is fine
