use Rattle.std.proofs.Common.{◌≡◌, ◌∙◌, ◌+◌, ◌≤◌, ◌<◌, List, sym, ap, subst, arith, length, slice_index_or}
use Rattle.disk_model.specs.Disk.{State}
use Rattle.disk_model.proofs.Moments.{adds_read}
use Rattle.sequence_rule.specs.declared.dirty.DirtyRun.{DirtyRun}
use Rattle.sequence_rule.proofs.Rows.{all_more, run_below}
use Rattle.sequence_rule.proofs.matching.match_all.Goals as goal

pub match_run-requires-clause-places : goal.match_run-requires-clause-places
match_run-requires-clause-places g c =
    let runs = c.args.dirty.now.runs in
    let same : c.as_slice-run-items.result.now ≡ runs = c.as_slice-run-items.ensures in
    let less = subst (λ (rs : List DirtyRun). c.loop-run.run-index < length rs) same c.loop-run-test.true in
    let read = subst (λ (rs : List DirtyRun). c.run-item.result ≡ slice_index_or rs c.loop-run.run-index c.run-item.result) same c.run-item.is in
    subst (λ (r : DirtyRun). r.first + length r.blocks ≤ 1048576) (sym read) (run_below 0 runs c.loop-run.run-index c.run-item.result c.args.dirty.now.in_order less)

pub loop-run-preserved : goal.loop-run-preserved
loop-run-preserved g c =
    let inv = c.loop-run.invariant in
    let list = g.K.ContentCache.list c.args.cache.now in
    let now = (g.D.Disk.state c.loop-run.disk).contents in
    let contents = (g.D.Disk.state c.args.disk.now).contents in
    record {
      rows = all_more g.D.Disk.tells list contents now c.as_slice-run-items.result.now c.args.dirty.now.runs c.loop-run.run-index c.run-item.result c.loop-run.rows.items c.match_run.new.rows.items
          c.as_slice-run-items.ensures c.loop-run-test.true c.run-item.is (λ told. ap (λ (s : State). s.contents) (inv.same told)) inv.rows c.in_ok-match_run.ensures.rows;
      same = λ told. c.in_ok-match_run.ensures.same told ∙ inv.same told;
      moments = λ told. adds_read (inv.moments told) (inv.same told) (c.in_ok-match_run.ensures.moments told);
      fixed = c.in_ok-match_run.ensures.fixed ∙ inv.fixed;
      given = omega (arith, c.in_ok-match_run.ensures.given, inv.given);
      faults = c.in_ok-match_run.ensures.cause ∙ inv.faults;
    }
