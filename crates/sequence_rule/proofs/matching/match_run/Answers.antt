use Rattle.std.proofs.Common.{◌∙◌, ◌+◌, [], ap, arith, slice_index_or}
use Rattle.disk_model.specs.Disk.{State}
use Rattle.disk_model.proofs.Moments.{adds_read}
use Rattle.vol_numbers.specs.declared.block.Block.{Block}
use Rattle.sequence_rule.specs.Runs.{DirtyBlock}
use Rattle.sequence_rule.proofs.Rows.{run_more, row_stays}
use Rattle.sequence_rule.proofs.matching.match_run.Goals as goal

abbrev none : Block
none = record { bytes = [] }

pub loop-n-preserved : goal.loop-n-preserved
loop-n-preserved g c =
    let inv = c.loop-n.invariant in
    let tells = g.D.Disk.tells in
    let list = g.K.ContentCache.list c.args.cache.now in
    let contents = (g.D.Disk.state c.args.disk.now).contents in
    let run = c.args.run.now in
    let slice = c.as_slice-block-items.result.now in
    let next : DirtyBlock = (run.first + c.loop-n.n, slice_index_or slice c.loop-n.n none) in
    let row = row_stays tells list (g.D.Disk.state c.loop-n.disk).contents contents next c.in_ok-row.row (λ told. ap (λ (s : State). s.contents) (inv.same told)) c.in_ok-row.ensures.row in
    record {
      rows = λ dirty are. run_more tells list contents dirty run.first slice run.blocks c.loop-n.n none c.loop-n.rows.items c.push_row.new.rows.items c.in_ok-row.row
          c.as_slice-block-items.ensures c.loop-n-test.true c.in_ok-push_row.ensures row (inv.rows dirty are);
      same = λ told. c.in_ok-row.ensures.same told ∙ inv.same told;
      moments = λ told. adds_read (inv.moments told) (inv.same told) (c.in_ok-row.ensures.moments told);
      fixed = c.in_ok-row.ensures.fixed ∙ inv.fixed;
      given = omega (arith, c.in_ok-row.ensures.given, inv.given);
      faults = c.in_ok-row.ensures.cause ∙ inv.faults;
    }
