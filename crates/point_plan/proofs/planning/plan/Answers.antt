use Rattle.std.proofs.Common.{◌≡◌, ℕ, List, Err, sym, ap, subst, ◌∙◌}
use Rattle.std.proofs.lemmas.Result.{IfOk-weaker}
use Rattle.vol_numbers.specs.declared.block.Block.{Block}
use Rattle.point_plan.specs.Cause.{HasPlanCause}
use Rattle.point_plan.specs.declared.fault.PlanFault.{PlanFault}
use Rattle.point_plan.specs.declared.fault.PlanFault.TheVariants.{Damaged, Short}
use Rattle.point_plan.specs.declared.state.PointState.{PointState}
use Rattle.point_plan.proofs.LongLaws.{no_room_is_short, no_room_tells}
use Rattle.point_plan.proofs.NowLaws.{nodes_now}
use Rattle.point_plan.proofs.OverLaws.{planned}
use Rattle.point_plan.proofs.SettledLaws.{settled_within}
use Rattle.point_plan.proofs.WrittenWithin.{within}
use Rattle.point_plan.proofs.planning.plan.Goals as goal

pub returns-in-Ok-clause-planned : goal.returns-in-Ok-clause-planned
returns-in-Ok-clause-planned g c = IfOk-weaker c.put_together.result _ _
    (λ p put tells r m shares holds.
    let old : List Block = (g.D.Disk.state c.args.disk.now).contents in
    let s : PointState = c.args.state.now in
    planned r m old (g.D.Disk.fixed c.args.disk.now).size s c.put_together.new.state c.in-Ok.gathered p shares holds c.requires.size c.in-Ok.ensures.gathered (c.in-Ok.ensures.over tells r m shares holds) put
    c.gathered_is_counted.ensures c.put_together_is_plan.ensures c.point_rests.ensures c.planned_is_seen.ensures)
    c.put_together.ensures.put

pub returns-in-Ok-clause-within : goal.returns-in-Ok-clause-within
returns-in-Ok-clause-within g c = IfOk-weaker c.put_together.result _ _
    (λ p put. within (g.D.Disk.fixed c.args.disk.now).size c.args.state.now c.put_together.new.state c.in-Ok.gathered p c.requires.size c.in-Ok.ensures.gathered put)
    c.put_together.ensures.put

pub returns-in-Ok-clause-settled : goal.returns-in-Ok-clause-settled
returns-in-Ok-clause-settled g c = IfOk-weaker c.put_together.result _ _
    (λ p put. settled_within (g.D.Disk.fixed c.args.disk.now).size c.args.state.now c.put_together.new.state c.in-Ok.gathered p c.requires.size c.in-Ok.ensures.gathered put)
    c.put_together.ensures.put

pub returns-in-Ok-clause-nodes : goal.returns-in-Ok-clause-nodes
returns-in-Ok-clause-nodes g c = IfOk-weaker c.put_together.result _ _
    (λ p put. nodes_now c.args.state.now c.put_together.new.state c.in-Ok.gathered.nodes c.in-Ok.ensures.gathered.nodes put.inodes.inodes put.directories)
    c.put_together.ensures.put

pub returns-in-Ok-clause-short : goal.returns-in-Ok-clause-short
returns-in-Ok-clause-short g c = λ free is tells r m shares holds.
    let old : List Block = (g.D.Disk.state c.args.disk.now).contents in
    let s : PointState = c.args.state.now in
    let lacks = c.put_together.ensures.short free is in
    let over = c.in-Ok.ensures.over tells r m shares holds in
    let blocks : ℕ = (g.D.Disk.fixed c.args.disk.now).size in (
      no_room_is_short r m old blocks s c.in-Ok.gathered c.gathered_is_counted.ensures shares holds c.requires.size c.in-Ok.ensures.gathered over lacks.1,
      lacks.0 ∙ no_room_tells r m old blocks s c.in-Ok.gathered c.gathered_is_counted.ensures shares holds c.requires.size c.in-Ok.ensures.gathered over lacks.1,
    )

pub returns-in-Ok-clause-cause : goal.returns-in-Ok-clause-cause
returns-in-Ok-clause-cause g c =
    let old : ℕ = g.D.Disk.faults c.args.disk.now in
    subst (λ (k : ℕ). HasPlanCause old k c.put_together.result) (sym c.in-Ok.ensures.cause) (c.put_together.ensures.cause old)

pub returns-in-Err-clause-short : goal.returns-in-Err-clause-short
returns-in-Err-clause-short g c = λ free is. let same : c.in-Err.fault ≡ Short free = cc in c.in-Err.ensures.short free (ap (λ (f : PlanFault). Err f) same)

pub returns-in-Err-clause-damaged : goal.returns-in-Err-clause-damaged
returns-in-Err-clause-damaged g c = λ b is. let same : c.in-Err.fault ≡ Damaged b = cc in c.in-Err.ensures.damaged b (ap (λ (f : PlanFault). Err f) same)

pub returns-in-Err-clause-sound : goal.returns-in-Err-clause-sound
returns-in-Err-clause-sound g c = λ b is tells.
    let same : c.in-Err.fault ≡ Damaged b = cc in
    let held = c.requires.held tells in
    c.in-Err.ensures.sound b (ap (λ (f : PlanFault). Err f) same) tells held.0 held.1 held.3
