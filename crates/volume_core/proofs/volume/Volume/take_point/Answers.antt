-- What the point makes of disk and memory is the machine after it.
use Rattle.disk_model.specs.Disk.{State}
use Rattle.volume_core.proofs.BeginLaws.{point_in}
use Rattle.volume_core.proofs.InsideLaws.{held_inside, is_inside}
use Rattle.volume_core.proofs.volume.Volume.take_point.Goals as goal

pub returns-in-Ok-clause-report : goal.returns-in-Ok-clause-report
returns-in-Ok-clause-report g c tells r m is = c.in-Ok.ensures.report tells r m (held_inside r m (g.D.Disk.state c.args.disk.now) _ c.args.self.now c.self.view_is is)

pub returns-in-Ok-clause-taken : goal.returns-in-Ok-clause-taken
returns-in-Ok-clause-taken g c tells r m is =
    let s : State = g.D.Disk.state c.args.disk.now in
    let held = held_inside r m s _ c.args.self.now c.self.view_is is in
    point_in r m s (g.D.Disk.state c.take.new.disk) _ c.take.new.state c.in-Ok.report (is_inside r m s _ c.args.self.now c.self.view_is is) (c.in-Ok.ensures.report tells r m held) (c.in-Ok.ensures.taken tells r m held)

pub returns-in-Ok-clause-long : goal.returns-in-Ok-clause-long
returns-in-Ok-clause-long g c after tells r m is = c.in-Ok.ensures.long after tells r m (held_inside r m (g.D.Disk.state c.args.disk.now) _ c.args.self.now c.self.view_is is)

pub returns-after-fault-clause-short : goal.returns-after-fault-clause-short
returns-after-fault-clause-short g c free lacks tells r m is = (c.in-Err.ensures.short free lacks tells r m (held_inside r m (g.D.Disk.state c.args.disk.now) _ c.args.self.now c.self.view_is is)).0

pub returns-after-fault-clause-long : goal.returns-after-fault-clause-long
returns-after-fault-clause-long g c after tells r m is = c.in-Err.ensures.long after tells r m (held_inside r m (g.D.Disk.state c.args.disk.now) _ c.args.self.now c.self.view_is is)
