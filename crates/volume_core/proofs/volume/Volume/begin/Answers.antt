-- The command is begun by what came of the point that was due.
use Rattle.std.proofs.Common.{◌∙◌, sym, ap, subst}
use Rattle.std.specs.Prelude.{IsTrue, Ok, Err}
use Rattle.disk_model.specs.Disk.{State}
use Rattle.volume_model.specs.Point.{after_point, fresh_in}
use Rattle.session_model.specs.Follows.{Seen, seen_of}
use Rattle.volume_core.specs.Answers.{Applied}
use Rattle.volume_core.specs.Begun.{TellsNothingDone}
use Rattle.volume_core.specs.Memory.{Memory, IsFitting, IsIn}
use Rattle.volume_core.proofs.BeginLaws.{given_owed, given_stays, given_told, none_begun, not_before, not_ready, ok_stays, point_begun, stop_counts, stop_told, stops_now}
use Rattle.volume_core.proofs.Between.{is_at_rest}
use Rattle.volume_core.proofs.PointFaults.{stop_owed, untaken_idle, untaken_owed}
use Rattle.volume_core.proofs.volume.Volume.begin.Goals as goal

pub is_due-requires : goal.is_due-requires
is_due-requires g c = (_, c.requires.fits)

pub returns-then-not-is_due-clause-ready : goal.returns-then-not-is_due-clause-ready
returns-then-not-is_due-clause-ready g c r m is =
    let s : State = g.D.Disk.state c.args.disk.now in
    none_begun r g.D.Disk.tells m c.args.command.now (seen_of s (g.D.Disk.past c.args.disk.now) (g.D.Disk.faults c.args.disk.now))
    (λ t. is_at_rest r m s c.args.self.now (is t)) (λ t. sym (c.is_due.ensures r m s (is t)) ∙ c.if-not-is_due.true)

pub returns-in-Ok-clause-ready : goal.returns-in-Ok-clause-ready
returns-in-Ok-clause-ready g c r m is =
    let s : State = g.D.Disk.state c.args.disk.now in
    let told = c.in-Ok.ensures in
    point_begun r g.D.Disk.tells m c.args.command.now c.in-Ok.report (seen_of s (g.D.Disk.past c.args.disk.now) (g.D.Disk.faults c.args.disk.now))
    (seen_of (g.D.Disk.state c.take_point.new.disk) (g.D.Disk.past c.take_point.new.disk) (g.D.Disk.faults c.take_point.new.disk))
    (λ t. sym (c.is_due.ensures r m s (is t)) ∙ c.if-not-is_due.false) (λ t. told.long (λ never. never) t r m (is t)) (λ t. told.report t r m (is t)) (λ t. told.between t r m (is t))
    (λ t. is_at_rest r (after_point r m (fresh_in c.in-Ok.report)) (g.D.Disk.state c.take_point.new.disk) c.take_point.new.self (told.taken t r m (is t))) told.cause

pub returns-in-Err-clause-ready : goal.returns-in-Err-clause-ready
returns-in-Err-clause-ready g c = not_ready c.untaken.result c.in-Err.fault c.untaken.ensures _

pub returns-in-Err-clause-holds : goal.returns-in-Err-clause-holds
returns-in-Err-clause-holds g c = not_ready c.untaken.result c.in-Err.fault c.untaken.ensures _

pub returns-in-Err-clause-given : goal.returns-in-Err-clause-given
returns-in-Err-clause-given g c =
    let s : State = g.D.Disk.state c.args.disk.now in
    let old : Seen = seen_of s (g.D.Disk.past c.args.disk.now) (g.D.Disk.faults c.args.disk.now) in
    let new : Seen = seen_of (g.D.Disk.state c.take_point.new.disk) (g.D.Disk.past c.take_point.new.disk) (g.D.Disk.faults c.take_point.new.disk) in
    let told = c.in-Err.ensures in
    given_owed c.untaken.result c.in-Err.fault c.untaken.ensures (λ r m. IsTrue g.D.Disk.tells → IsIn r m s c.args.self.now) (λ r m answer. Applied r g.D.Disk.tells m c.args.command.now (Ok answer) old new)
    (λ before r m is. untaken_owed r g.D.Disk.tells m c.args.command.now old new (λ t. is_at_rest r m s c.args.self.now (is t)) c.in-Err.fault (record {
      before = before;
      due = λ t. sym (c.is_due.ensures r m s (is t)) ∙ c.if-not-is_due.false;
      short = λ free e t. told.short free (ap Err e) t r m (is t);
      sound = λ b e t. told.sound b (ap Err e) t;
      state = λ t. told.same before t;
      moments = λ t. told.moments before t;
      cause = told.cause;
    }))

pub returns-in-Err-clause-idle : goal.returns-in-Err-clause-idle
returns-in-Err-clause-idle g c = given_told c.untaken.result c.in-Err.fault c.untaken.ensures TellsNothingDone (untaken_idle c.in-Err.fault)

pub returns-in-Err-clause-stays : goal.returns-in-Err-clause-stays
returns-in-Err-clause-stays g c = given_stays c.untaken.result c.in-Err.fault c.untaken.ensures _ c.in-Err.ensures.unchanged

pub returns-in-Err-clause-same : goal.returns-in-Err-clause-same
returns-in-Err-clause-same g c = given_stays c.untaken.result c.in-Err.fault c.untaken.ensures _ c.in-Err.ensures.same

pub returns-in-Err-clause-stopped : goal.returns-in-Err-clause-stopped
returns-in-Err-clause-stopped g c = stop_told c.untaken.result c.in-Err.fault c.untaken.ensures _ (λ e r m is.
    let s : State = g.D.Disk.state c.args.disk.now in
    let told = c.in-Err.ensures in
    stop_owed r g.D.Disk.tells m c.args.command.now (seen_of s (g.D.Disk.past c.args.disk.now) (g.D.Disk.faults c.args.disk.now))
    (seen_of (g.D.Disk.state c.take_point.new.disk) (g.D.Disk.past c.take_point.new.disk) (g.D.Disk.faults c.take_point.new.disk)) (λ t. is_at_rest r m s c.args.self.now (is t))
    (λ t. sym (c.is_due.ensures r m s (is t)) ∙ c.if-not-is_due.false) (λ t. told.long (λ before. not_before c.in-Err.fault e before) t r m (is t)) (λ t. told.unsynced (ap Err e) t)
    (λ t. told.stopped (ap Err e) t r m (is t)) (stop_counts (g.D.Disk.faults c.args.disk.now) (g.D.Disk.faults c.take_point.new.disk) c.in-Err.fault e told.cause))

pub returns-in-Err-clause-now : goal.returns-in-Err-clause-now
returns-in-Err-clause-now g c = stops_now c.untaken.result c.in-Err.fault c.untaken.ensures

pub returns-in-Err-clause-failed : goal.returns-in-Err-clause-failed
returns-in-Err-clause-failed g c = stop_told c.untaken.result c.in-Err.fault c.untaken.ensures _ (λ e. c.in-Err.ensures.failed (ap Err e))

pub returns-in-Err-clause-fits : goal.returns-in-Err-clause-fits
returns-in-Err-clause-fits g c = ok_stays c.untaken.result c.in-Err.fault c.untaken.ensures _ (λ before. subst (IsFitting (g.D.Disk.fixed c.args.disk.now).size) (sym (c.in-Err.ensures.unchanged before)) c.requires.fits)

pub returns-in-Err-clause-alive : goal.returns-in-Err-clause-alive
returns-in-Err-clause-alive g c = ok_stays c.untaken.result c.in-Err.fault c.untaken.ensures _ (λ before. ap (λ (v : Memory). v.is_failed) (c.in-Err.ensures.unchanged before))
