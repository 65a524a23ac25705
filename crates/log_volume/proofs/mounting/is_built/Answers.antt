use Rattle.std.proofs.Common.{◌≡◌, List, ap, subst, sym}
use Rattle.std.proofs.lemmas.Result.{IfOk-weaker}
use Rattle.vol_numbers.specs.declared.block.Block.{Block}
use Rattle.disk_model.specs.Disk.{State}
use Rattle.block_format.specs.Root.{Root, root_of}
use Rattle.log_volume.specs.Mounting.{HasFreshFields, HasCounts, HasInodes}
use Rattle.log_volume.proofs.MountLemmas.{built_from, built_inodes}
use Rattle.log_volume.proofs.mounting.is_built.Goals as goal

pub returns-clause-is : goal.returns-clause-is
returns-clause-is g c = IfOk-weaker c.are_inodes.result _ _ (λ is iff tells root.
    let r : Root = root_of c.args.body.now in
    let image : List Block = (g.D.Disk.state c.args.disk.now).contents in
    let moved : (g.D.Disk.state c.are_counts.new.disk).contents ≡ image = ap (λ (s : State). s.contents) (c.are_counts.ensures.same tells) in
    let fields : HasFreshFields r = c.has_fresh_fields.ensures.0 c.if-not-has_fresh_fields.false in
    let counts : HasCounts r.layout image = (c.in_ok-are_counts.ensures.are tells).0 c.if-not-branch.false in (
      λ true_is. built_from r image root fields counts (subst (HasInodes r.layout) moved ((iff tells).0 true_is)),
      λ built. (iff tells).1 (subst (HasInodes r.layout) (sym moved) (built_inodes r image root built)),
    )) c.are_inodes.ensures.are
