use Rattle.std.proofs.Common.{◌≡◌, sym, subst, arith, List, length}
use Rattle.std.specs.Prelude.{max}
use Rattle.volume_model.specs.declared.sequence.Sequence.{Sequence}
use Rattle.volume_model.specs.Selection.{by_place, IsSelection}
use Rattle.sequence_rule.specs.Choosing.{picks_along}
use Rattle.sequence_rule.specs.Matches.{matches, SelectsCached}
use Rattle.sequence_rule.specs.Runs.{dirty_blocks, dirty_places}
use Rattle.sequence_rule.proofs.Rows.{runs_rise, runs_under}
use Rattle.sequence_rule.proofs.Selected.{few_rows, selects_some, selects_told}
use Rattle.sequence_rule.proofs.plain.plain_select.Goals as goal

pub select-requires : goal.select-requires
select-requires g c =
    let runs = c.args.dirty.now.runs in
    let order = c.args.dirty.now.in_order in
    let few = few_rows g.D.Disk.tells (g.K.ContentCache.list c.args.cache.now) (g.D.Disk.state c.args.disk.now).contents 1048576 (dirty_blocks runs) c.in_ok-rows.rows.items
    c.in_ok-rows.ensures.rows (runs_rise 0 0 runs (omega arith) order) (runs_under 0 runs order) in
    omega (arith, few)

pub returns-clause-selection : goal.returns-clause-selection
returns-clause-selection g c told =
    let runs = c.args.dirty.now.runs in
    let list = g.K.ContentCache.list c.args.cache.now in
    let contents = (g.D.Disk.state c.args.disk.now).contents in
    let rows = c.in_ok-rows.rows.items in
    let is : by_place (picks_along (max c.args.threshold 1) (length rows) rows) ≡ c.in_ok-select.field-0 = sym c.in_ok-select.ensures in
    subst (λ (list : List Sequence). IsSelection (matches (g.K.ContentCache.list c.args.cache.now) contents (dirty_blocks runs)) c.args.threshold (dirty_places runs) list) is
    (selects_told g.D.Disk.tells list contents c.args.threshold (dirty_blocks runs) rows c.in_ok-rows.ensures.rows (runs_rise 0 0 runs (omega arith) c.args.dirty.now.in_order) told)

pub returns-clause-some : goal.returns-clause-some
returns-clause-some g c =
    let runs = c.args.dirty.now.runs in
    let list = g.K.ContentCache.list c.args.cache.now in
    let contents = (g.D.Disk.state c.args.disk.now).contents in
    let rows = c.in_ok-rows.rows.items in
    let is : by_place (picks_along (max c.args.threshold 1) (length rows) rows) ≡ c.in_ok-select.field-0 = sym c.in_ok-select.ensures in
    subst (λ (sorted : List Sequence). SelectsCached list c.args.threshold (dirty_places runs) sorted) is
    (selects_some g.D.Disk.tells list contents c.args.threshold (dirty_blocks runs) rows c.in_ok-rows.ensures.rows (runs_rise 0 0 runs (omega arith) c.args.dirty.now.in_order))
