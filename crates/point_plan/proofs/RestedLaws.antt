-- What stands just after a point, with nothing staged.
use Rattle.std.proofs.Common.{◌<◌, ℕ, List, Some, inl, refl, sym, subst, ◌∙◌}
use Rattle.dirty_store.specs.Overlay.{Overlay}
use Rattle.point_model.specs.Holding.{HoldsMachine}
use Rattle.point_model.specs.Staging.{AtRest}
use Rattle.point_plan.specs.Rested.{CoherenceStays, PointRests}
use Rattle.point_space.specs.Laws.{AfterMetadataIs}
use Rattle.state_laws.specs.Laws.{AlwaysCoherent}
use Rattle.state_laws.specs.States.{IsCoherent}
use Rattle.tree_model.specs.declared.command.Command.TheVariants.{Checkpoint}
use Rattle.tree_model.specs.declared.report.Answer.{Answer}
use Rattle.tree_model.specs.declared.report.Report.{Report}
use Rattle.volume_model.specs.Laws.{PointsExist}
use Rattle.volume_model.specs.Legal.{reply_to}
use Rattle.volume_model.specs.Machine.{Machine, Rules, stored}
use Rattle.volume_model.specs.Point.{IsPoint, after_point, cache_after, fresh_in, placed_after, report_of}

-- a checkpoint that takes the point is answered legally
reported_coherent : AlwaysCoherent → (r : Rules) (m : Machine) (report : Report) → 0 < r.threshold → IsCoherent r m → IsPoint r m report → IsCoherent r (after_point r m (fresh_in report))
reported_coherent always r m report positive coherent point = always.later r m Checkpoint answer positive coherent (record { report = (refl, point); reply = inl (refl, refl) })
  where
    answer : Answer
    answer = record { report = Some report; reply = reply_to (after_point r m (fresh_in report)) Checkpoint }

pub coherence_stays : AlwaysCoherent → PointsExist → CoherenceStays
coherence_stays always exist r m fresh positive coherent may =
    let point = exist r m fresh coherent.whole.dirty_in_order may in
    subst (λ (blocks : List ℕ). IsCoherent r (after_point r m blocks)) point.1 (reported_coherent always r m (report_of r m fresh) positive coherent point.0)

pub point_rests : CoherenceStays → AtRest → AfterMetadataIs → PointRests
point_rests stays rest after r m new o fresh metadata positive coherent may stands is_clean counted = record {
  stands = stands;
  coherent = stays r m fresh positive coherent may;
  staged = subst (λ (x : Overlay). HoldsMachine new x (after_point r m fresh)) (sym is_clean) (rest new (stored (after_point r m fresh)) (cache_after r m (placed_after r m fresh)) stands);
  metadata = counted ∙ sym (after r m fresh positive coherent.whole may);
}
