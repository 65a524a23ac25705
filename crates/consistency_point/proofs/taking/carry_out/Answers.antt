use Rattle.std.proofs.Common.{◌∙◌, sym, ap, subst}
use Rattle.disk_model.specs.Media.{Fixed}
use Rattle.tree_model.specs.declared.report.Report.{Report}
use Rattle.volume_model.specs.Point.{after_point, fresh_in}
use Rattle.point_plan.specs.State.{HoldsPoint}
use Rattle.consistency_point.proofs.Settled.{after_counted, after_holds, after_is_of_size, after_reports}
use Rattle.consistency_point.proofs.taking.carry_out.Goals as goal

pub count_free-requires : goal.count_free-requires
count_free-requires g c = (after_is_of_size c.args.state.now c.write_plan.new.state c.renew.new.state c.in_ok-current.current c.args.plan c.in_ok-current.ensures.counts c.renew.ensures.rest c.renew.ensures.clean c.in_ok-current.ensures.root c.requires.root
    (g.D.Disk.fixed c.write_plan.new.disk).size (c.requires.size ∙ ap (λ (f : Fixed). f.size) (sym c.write_plan.ensures.fixed)) c.in_ok-current.ensures.slot c.in_ok-current.ensures.grammar c.requires.planned).counts

pub returns-clause-report : goal.returns-clause-report
returns-clause-report g c tells r m w = after_reports c.args.state.now c.write_plan.new.state c.renew.new.state c.in_ok-current.current c.args.plan c.in_ok-current.ensures.counts c.renew.ensures.rest c.renew.ensures.clean c.in_ok-current.ensures.root c.requires.root
    r m (g.D.Disk.state c.args.disk.now) (g.D.Disk.state c.write_plan.new.disk) w (c.in_ok-current.ensures.switched tells r m w) c.count_free.new.report c.count_free.ensures

pub returns-clause-holds : goal.returns-clause-holds
returns-clause-holds g c tells r m w =
    subst (λ (report : Report). HoldsPoint r (after_point r m (fresh_in report)) (g.D.Disk.state c.write_plan.new.disk).contents c.renew.new.state) (sym c.count_free.ensures)
    (after_holds c.args.state.now c.write_plan.new.state c.renew.new.state c.in_ok-current.current c.args.plan c.in_ok-current.ensures.counts c.renew.ensures.rest c.renew.ensures.clean c.in_ok-current.ensures.root c.requires.root
    r m (g.D.Disk.state c.args.disk.now) (g.D.Disk.state c.write_plan.new.disk) w (c.in_ok-current.ensures.switched tells r m w))

pub returns-clause-counted : goal.returns-clause-counted
returns-clause-counted g c tells r m w = after_counted c.args.state.now c.write_plan.new.state c.renew.new.state c.in_ok-current.current c.args.plan c.in_ok-current.ensures.counts c.renew.ensures.rest c.renew.ensures.clean c.in_ok-current.ensures.root c.requires.root
    r m (g.D.Disk.state c.args.disk.now) (g.D.Disk.state c.write_plan.new.disk) w (c.in_ok-current.ensures.switched tells r m w)

pub returns-clause-synced : goal.returns-clause-synced
returns-clause-synced g c tells = let held = c.requires.held tells in (c.in_ok-current.ensures.switched tells held.0 held.1 held.2).synced

pub returns-clause-size : goal.returns-clause-size
returns-clause-size g c = after_is_of_size c.args.state.now c.write_plan.new.state c.renew.new.state c.in_ok-current.current c.args.plan c.in_ok-current.ensures.counts c.renew.ensures.rest c.renew.ensures.clean c.in_ok-current.ensures.root c.requires.root
    (g.D.Disk.fixed c.write_plan.new.disk).size (c.requires.size ∙ ap (λ (f : Fixed). f.size) (sym c.write_plan.ensures.fixed)) c.in_ok-current.ensures.slot c.in_ok-current.ensures.grammar c.requires.planned
