use Rattle.std.proofs.Common.{◌<◌, ℕ, List, length, sym, ap, subst, ◌∙◌}
use Rattle.dirty_store.specs.Laws.{dirty_spots}
use Rattle.fresh_runs.specs.Fresh.{AreNumbersOf}
use Rattle.fresh_runs.proofs.StagedNumbers.{staged_have_dirty}
use Rattle.fresh_runs.specs.declared.placed.Placed.{Placed}
use Rattle.point_plan.proofs.PlacedShort.{taken_short}
use Rattle.point_plan.proofs.gathering.gather.Goals as goal

pub place_fresh-requires : goal.place_fresh-requires
place_fresh-requires g c = subst (λ (ns : List ℕ). AreNumbersOf (dirty_spots c.args.state.now.dirty.overlay) ns) (sym c.as_slice.ensures) (staged_have_dirty c.args.state.now.dirty.overlay c.in_ok-numbers.numbers c.in_ok-numbers.ensures)

pub returns-in_err-placed-clause-short : goal.returns-in_err-placed-clause-short
returns-in_err-placed-clause-short g c = λ free is tells r m shares holds.
    let at = c.in_err-placed.ensures.short free (taken_short Placed c.from_residual-in_err-placed.result c.in_err-placed.field-0.0 free c.from_residual-in_err-placed.ensures.1 is) in
    let told = c.in_ok-free.ensures in
    let count = c.short_points.ensures.free r m _ _ c.args.state.now holds c.requires.size in (
      c.short_points.ensures.places r m _ _ c.args.state.now holds c.requires.size (subst (λ (bs : List ℕ). length bs < length (dirty_spots c.args.state.now.dirty.overlay)) told at.1),
      at.0 ∙ ap (λ (bs : List ℕ). length bs) told ∙ count,
    )
