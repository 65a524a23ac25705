use Rattle.std.proofs.Common.{arith, subst, sym}
use Rattle.std.proofs.lemmas.Result.{on_ok_weaker}
use Rattle.disk_model.specs.Disk.{State}
use Rattle.vol_numbers.specs.Geometry.{layout_of}
use Rattle.volume_format.specs.Formatting.{KeepsSelector}
use Rattle.volume_format.proofs.FormatLemmas.{adds_keeping, adds_keeps, keeps_written, inodes_written}
use Rattle.volume_format.proofs.formatting.write_inodes.Goals as goal

pub returns-in_err-write_block-clause-moments : goal.returns-in_err-write_block-clause-moments
returns-in_err-write_block-clause-moments g c tells = adds_keeping (omega (arith, c.area_start.ensures)) c.write_block.ensures.moments

pub returns-clause-written : goal.returns-clause-written
returns-clause-written g c = on_ok_weaker c.write_block-2.result (λ second tells.
    inodes_written (layout_of c.args.g.now) (g.D.Disk.state c.args.disk.now) _ _ _ _ _ _ c.area_start.ensures c.area_start-2.ensures c.inode_block.ensures c.index_block.ensures
    (c.in_ok-write_block.ensures.written tells) (second tells)) c.write_block-2.ensures.written

pub returns-clause-moments : goal.returns-clause-moments
returns-clause-moments g c tells =
    let before : State = g.D.Disk.state c.args.disk.now in
    let first = adds_keeping (omega (arith, c.area_start.ensures)) c.write_block.ensures.moments in
    adds_keeps first (subst (KeepsSelector before) (sym (c.in_ok-write_block.ensures.written tells)) (keeps_written _ _ before (omega (arith, c.area_start.ensures)))) (omega arith) c.write_block-2.ensures.moments
