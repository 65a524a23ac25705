use Rattle.std.proofs.Common.{ℕ, List, sym, ap, subst, ◌∙◌, arith}
use Rattle.std.specs.Prelude.{Err}
use Rattle.vol_numbers.specs.declared.runs.Change.{Change}
use Rattle.dirty_store.specs.Laws.{dirty_spots}
use Rattle.fresh_runs.specs.Laws.{AreFreshLines}
use Rattle.place_words.specs.Different.{times}
use Rattle.dirty_store.specs.Numbers.{AreOnce, staged_numbers}
use Rattle.point_plan.specs.PlanNodes.{StopsShort}
use Rattle.point_plan.proofs.PlacedLaws.{changes_dirty, changes_placed, changes_point, changes_used, left_point}
use Rattle.point_plan.proofs.PlacedShort.{was_short}
use Rattle.point_plan.proofs.SoundLaws.{was_damaged}
use Rattle.point_plan.proofs.gathering.with_nodes.Goals as goal

pub plan_nodes-requires-clause-changes : goal.plan_nodes-requires-clause-changes
plan_nodes-requires-clause-changes g c =
    let placed = c.requires.placed in
    changes_dirty (dirty_spots c.args.state.now.dirty.overlay) c.args.placed.lines c.deref.result.now c.args.numbers.now placed.spots (c.deref.ensures.value ∙ placed.changes)

pub returns-in-Ok-clause-gathered : goal.returns-in-Ok-clause-gathered
returns-in-Ok-clause-gathered g c =
    let placed = c.requires.placed in
    let is = c.in-Ok.ensures in
    let changes = c.deref.ensures.value ∙ placed.changes in
    record {
      free = c.requires.free;
      dirty = placed.many;
      spots = placed.spots;
      longest = placed.longest;
      parted = λ b. omega (arith, placed.parted b, ap (times b) is.taken);
      nodes = record {
        ascend = is.ascend;
        numbers = subst (λ (ns : List ℕ). AreOnce (staged_numbers c.args.state.now.dirty.overlay) ns) (sym is.numbers) c.requires.numbers;
        had = is.had;
        shapes = is.shapes;
        were_shapes = is.were_shapes;
        kinds = is.kinds;
        whole = is.begins (left_point c.args.state.now c.args.numbers.now c.args.placed.lines c.args.placed.left c.deref.result.now placed.parted changes)
            (changes_point c.args.state.now c.args.numbers.now c.args.placed.lines c.args.placed.left c.deref.result.now placed.parted changes);
      };
      used = λ b. omega (arith, is.used b, changes_used c.args.placed.lines c.deref.result.now c.args.numbers.now c.requires.numbers.rises changes b);
    }

pub returns-in-Ok-clause-over : goal.returns-in-Ok-clause-over
returns-in-Ok-clause-over g c = λ tells r m shares holds.
    let placed = c.requires.placed in
    let is = c.in-Ok.ensures in
    let fresh : AreFreshLines m c.args.placed.lines = record { spots = placed.spots ∙ holds.staged.dirty; longest = placed.longest } in
    record {
      nodes = is.planned tells r m holds _ (changes_placed r m _ _ c.args.state.now c.args.placed.lines c.args.placed.left shares holds c.requires.size fresh placed.parted c.args.numbers.now c.deref.result.now (c.deref.ensures.value ∙ placed.changes));
      before = is.metadata_before tells r m holds;
      metadata = is.metadata tells r m holds;
      at_most = is.at_most tells r m holds;
    }

pub returns-in-Err-clause-short : goal.returns-in-Err-clause-short
returns-in-Err-clause-short g c = λ free is tells r m shares holds.
    let at = was_short c.in-Err.fault c.node_fault.result c.args.free free c.node_fault.ensures is in
    let stop = subst (λ (cs : List (List Change)). StopsShort g.D.Disk.tells (g.D.Disk.state c.args.disk.now).contents c.args.state.now c.args.numbers.now cs c.args.placed.left) c.deref.ensures.value (c.in-Err.ensures.short (ap Err at.0)) in (
      c.short_points.ensures.nodes r m _ _ c.args.state.now c.args.numbers.now c.args.placed g.D.Disk.tells shares holds c.requires.size c.requires.numbers c.requires.placed stop tells,
      at.1 ∙ c.requires.free ∙ c.short_points.ensures.free r m _ _ c.args.state.now holds c.requires.size,
    )

pub returns-in-Err-clause-sound : goal.returns-in-Err-clause-sound
returns-in-Err-clause-sound g c = λ b is tells r m holds.
    c.in-Err.ensures.sound b (ap Err (was_damaged c.in-Err.fault c.node_fault.result c.args.free b c.node_fault.ensures is)) tells r m holds
