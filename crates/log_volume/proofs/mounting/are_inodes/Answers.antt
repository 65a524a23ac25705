use Rattle.std.proofs.Common.{◌+◌, ap, ℕ}
use Rattle.std.proofs.lemmas.Result.{IfOk-weaker}
use Rattle.disk_model.specs.Disk.{State}
use Rattle.vol_numbers.specs.Geometry.{layout_of}
use Rattle.disk_model.proofs.Moments.{adds_read}
use Rattle.log_volume.proofs.MountLemmas.{inodes_stand}
use Rattle.log_volume.proofs.mounting.are_inodes.Goals as goal

pub returns-clause-are : goal.returns-clause-are
returns-clause-are g c = IfOk-weaker c.is_block-2.result _ _ (λ is iff tells.
    inodes_stand (layout_of c.args.g.now) (g.D.Disk.state c.args.disk.now).contents (g.D.Disk.state c.is_block.new.disk).contents c.area_start.result (c.area_start-2.result + 1) c.inode_block.result c.index_block.result is
    c.area_start.ensures (ap (λ (n : ℕ). n + 1) c.area_start-2.ensures) c.inode_block.ensures c.index_block.ensures
    ((c.in_ok-is_block.ensures.is tells).0 c.if-not-branch.false) (ap (λ (s : State). s.contents) (c.is_block.ensures.same tells)) (iff tells)) c.is_block-2.ensures.is

pub returns-clause-moments : goal.returns-clause-moments
returns-clause-moments g c tells = adds_read (c.is_block.ensures.moments tells) (c.is_block.ensures.same tells) (c.is_block-2.ensures.moments tells)
