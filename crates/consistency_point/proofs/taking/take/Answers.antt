use Rattle.std.proofs.Common.{◌⊎◌, ℕ, List, Err, IsTrue, ap, sym, subst, ◌∙◌}
use Rattle.disk_model.specs.Disk.{State, EachImage}
use Rattle.disk_model.specs.Past.{Adds}
use Rattle.disk_model.proofs.Moments.{adds_then, adds_weaker}
use Rattle.image_model.specs.Stands.{Stands}
use Rattle.point_plan.specs.Planning.{with_free}
use Rattle.point_plan.specs.State.{node_in}
use Rattle.point_plan.specs.declared.state.PointState.{PointState}
use Rattle.volume_model.specs.Machine.{Machine, Rules, free_of, stored}
use Rattle.volume_model.specs.Point.{after_point, fresh_in}
use Rattle.consistency_point.specs.Taking.{IsHeld}
use Rattle.consistency_point.specs.Writing.{IsToBeWritten}
use Rattle.consistency_point.proofs.Settled.{damaged_of, rest_between, rest_through, short_of, through, to_be_written}
use Rattle.consistency_point.proofs.taking.take.Given.{Over}
use Rattle.consistency_point.proofs.taking.take.Goals.{In_ok-plan}
use Rattle.consistency_point.proofs.taking.take.Goals as goal

-- what is planned is to be written
planned : (g : Over) (c : In_ok-plan g) (r : Rules) (m : Machine) → IsTrue g.D.Disk.tells → IsHeld r m (g.D.Disk.state c.args.disk.now) c.args.state.now
    → IsToBeWritten r m (g.D.Disk.state c.plan.new.disk) c.plan.new.state c.in_ok-plan.plan
planned g c r m tells held =
    let is = c.in_ok-plan.ensures in
    subst (λ (u : State). IsToBeWritten r m u c.plan.new.state c.in_ok-plan.plan) (sym (c.plan.ensures.same tells))
    (to_be_written r m (g.D.Disk.state c.args.disk.now) (g.D.Disk.fixed c.args.disk.now).size c.args.state.now c.plan.new.state c.in_ok-plan.plan c.requires.size is.rest is.root is.settled is.kept (is.planned tells r m held.shares held.holds) held)

pub returns-in_err-plan-clause-during : goal.returns-in_err-plan-clause-during
returns-in_err-plan-clause-during g c tells r m held = adds_weaker (c.plan.ensures.moments tells) (λ u is. rest_through r m (g.D.Disk.state c.args.disk.now) u c.args.state.now held is)

pub returns-in_err-plan-clause-short : goal.returns-in_err-plan-clause-short
returns-in_err-plan-clause-short g c free is tells r m held =
    c.in_err-plan.ensures.short free (ap Err (short_of c.from_residual.result c.in_err-plan.field-0.0 c.from_residual.ensures.1 free is)) tells r m held.shares held.holds

pub returns-in_err-plan-clause-damaged : goal.returns-in_err-plan-clause-damaged
returns-in_err-plan-clause-damaged g c b is = c.in_err-plan.ensures.damaged b (ap Err (damaged_of c.from_residual.result c.in_err-plan.field-0.0 c.from_residual.ensures.1 b is))

pub returns-in_err-plan-clause-sound : goal.returns-in_err-plan-clause-sound
returns-in_err-plan-clause-sound g c b is tells = c.in_err-plan.ensures.sound b (ap Err (damaged_of c.from_residual.result c.in_err-plan.field-0.0 c.from_residual.ensures.1 b is)) tells

pub carry_out-requires-clause-held : goal.carry_out-requires-clause-held
carry_out-requires-clause-held g c tells =
    let some = c.requires.held tells in
    (some.0, some.1, planned g (goal.at.carry_out-requires-clause-held g c).In_ok-plan some.0 some.1 tells some.2)

pub returns-in_err-report-clause-during : goal.returns-in_err-report-clause-during
returns-in_err-report-clause-during g c tells r m held =
    let w = planned g (goal.at.returns-in_err-report-clause-during g c).In_ok-plan r m tells held in
    adds_then (adds_weaker (c.plan.ensures.moments tells) (λ u is. rest_through r m (g.D.Disk.state c.args.disk.now) u c.args.state.now held is))
    (c.carry_out.ensures.during tells r m w) (λ u each. through r m _ w.planned.report u each)

pub returns-in_err-report-clause-stopped : goal.returns-in_err-report-clause-stopped
returns-in_err-report-clause-stopped g c is tells r m held =
    let w = planned g (goal.at.returns-in_err-report-clause-stopped g c).In_ok-plan r m tells held in
    record {
      report = with_free c.in_ok-plan.plan.report (free_of (after_point r m (fresh_in c.in_ok-plan.plan.report)));
      is_report = w.planned.report;
      left = c.in_err-report.ensures.left tells r m w;
      during = adds_then (adds_weaker (c.plan.ensures.moments tells) (λ u is. rest_between r m c.in_ok-plan.plan.report (g.D.Disk.state c.args.disk.now) u c.args.state.now held is))
          (c.carry_out.ensures.during tells r m w) (λ u each. each);
    }

pub returns-in_err-report-clause-left : goal.returns-in_err-report-clause-left
returns-in_err-report-clause-left g c is tells r m held =
    let w = planned g (goal.at.returns-in_err-report-clause-left g c).In_ok-plan r m tells held in
    through r m _ w.planned.report (g.D.Disk.state c.carry_out.new.disk) (c.in_err-report.ensures.left tells r m w)

pub returns-in_err-report-clause-long : goal.returns-in_err-report-clause-long
returns-in_err-report-clause-long g c after tells r m held = (c.in_ok-plan.ensures.planned tells r m held.shares held.holds).long

pub returns-clause-report : goal.returns-clause-report
returns-clause-report g c tells r m held = c.in_ok-report.ensures.report tells r m (planned g (goal.at.returns-clause-report g c).In_ok-plan r m tells held)

pub returns-clause-taken : goal.returns-clause-taken
returns-clause-taken g c tells r m held =
    let w = planned g (goal.at.returns-clause-taken g c).In_ok-plan r m tells held in
    record {
      shares = held.shares;
      synced = c.in_ok-report.ensures.synced tells;
      holds = c.in_ok-report.ensures.holds tells r m w;
      counted = c.in_ok-report.ensures.counted tells r m w;
    }

pub returns-clause-during : goal.returns-clause-during
returns-clause-during g c tells r m held =
    let w = planned g (goal.at.returns-clause-during g c).In_ok-plan r m tells held in
    adds_then (adds_weaker (c.plan.ensures.moments tells) (λ u is. rest_through r m (g.D.Disk.state c.args.disk.now) u c.args.state.now held is))
    (c.carry_out.ensures.during tells r m w) (λ u each. through r m _ w.planned.report u each)

pub returns-clause-between : goal.returns-clause-between
returns-clause-between g c tells r m held =
    let w = planned g (goal.at.returns-clause-between g c).In_ok-plan r m tells held in
    subst (λ (fresh : List ℕ). Adds (g.D.Disk.past c.args.disk.now) (g.D.Disk.past c.carry_out.new.disk) (EachImage (λ image. Stands image (stored m) ⊎ Stands image (stored (after_point r m fresh))))) (sym c.in_ok-report.ensures.same_point)
    (adds_then (adds_weaker (c.plan.ensures.moments tells) (λ u is. rest_between r m c.in_ok-plan.plan.report (g.D.Disk.state c.args.disk.now) u c.args.state.now held is))
    (c.carry_out.ensures.during tells r m w) (λ u each. each))

pub returns-clause-long : goal.returns-clause-long
returns-clause-long g c after tells r m held = (c.in_ok-plan.ensures.planned tells r m held.shares held.holds).long

pub returns-clause-nodes : goal.returns-clause-nodes
returns-clause-nodes g c n =
    ap (λ (x : PointState). node_in x n) c.in_ok-report.ensures.rest ∙ c.in_ok-plan.ensures.nodes c.carry_out.new.state.dirty c.in_ok-report.ensures.clean n
