use Rattle.std.proofs.Common.{◌≡◌, ◌∙◌, ◌+◌, ℕ, IsTrue, sym, ap, subst, arith}
use Rattle.block_format.specs.Root.{root_of}
use Rattle.command_log.specs.Logging.{HasCurrent, KeepsBeside, MayDo, StandsForEither, next_root}
use Rattle.disk_model.specs.Disk.{State, EachImage}
use Rattle.disk_model.specs.Past.{Adds}
use Rattle.disk_model.proofs.Moments.{adds_then, adds_weaker}
use Rattle.space_account.specs.Charge.{charge}
use Rattle.volume_model.specs.Done.{done}
use Rattle.volume_model.specs.Machine.{Machine, Rules}
use Rattle.volume_core.specs.Memory.{Memory, IsIn}
use Rattle.volume_core.specs.Staging.{IsStaged}
use Rattle.volume_core.proofs.Between.{has_current}
use Rattle.volume_core.proofs.Changed.{done_in, either_now, fault_sound, may_now, now_is, with_logged}
use Rattle.volume_core.proofs.Fitting.{in_same}
use Rattle.volume_core.proofs.Recorded.{is_logged}
use Rattle.volume_core.proofs.volume.Volume.change.Given.{Over}
use Rattle.volume_core.proofs.volume.Volume.change.Goals.{After-log}
use Rattle.volume_core.proofs.volume.Volume.change.Goals as goal

-- the command may be logged
may : (g : Over) (c : After-log g) → IsTrue g.D.Disk.tells → (r : Rules) (m : Machine) → IsIn r m (g.D.Disk.state c.args.disk.now) c.args.self.now
    → MayDo r m c.args.command.now (g.D.Disk.state c.stage.new.disk).contents
may g c tells r m is =
    may_now r m (g.D.Disk.state c.args.disk.now) c.args.self.now (g.D.Disk.fixed c.args.disk.now).size c.requires.fits is c.args.command.now c.table_holds_tree.ensures c.requires.change c.requires.accepted c.requires.space
    (g.D.Disk.state c.stage.new.disk) (c.in_default.ensures.same tells)

-- the moments of the staging and the logging
moments : (g : Over) (c : After-log g) → IsTrue g.D.Disk.tells → (r : Rules) (m : Machine) → IsIn r m (g.D.Disk.state c.args.disk.now) c.args.self.now
    → Adds (g.D.Disk.past c.args.disk.now) (g.D.Disk.past c.log.new.disk) (EachImage (StandsForEither m c.args.command.now))
moments g c tells r m is =
    let at_first = either_now r m (g.D.Disk.state c.args.disk.now) c.args.self.now (g.D.Disk.fixed c.args.disk.now).size c.requires.fits is c.args.command.now in
    adds_then (adds_weaker (c.in_default.ensures.moments tells) (λ u same. subst (EachImage (StandsForEither m c.args.command.now)) (sym same) at_first)) (c.log.ensures.during tells r m (may g c tells r m is)) (λ u each. each)

pub returns-in-Err-clause-during : goal.returns-in-Err-clause-during
returns-in-Err-clause-during g c tells r m is =
    let at_first = either_now r m (g.D.Disk.state c.args.disk.now) c.args.self.now (g.D.Disk.fixed c.args.disk.now).size c.requires.fits is c.args.command.now in
    adds_weaker (c.in-Err.ensures.moments tells) (λ u same. subst (EachImage (StandsForEither m c.args.command.now)) (sym same) at_first)

pub returns-in-Err-clause-unstaged : goal.returns-in-Err-clause-unstaged
returns-in-Err-clause-unstaged g c tells r m is =
    let s = g.D.Disk.state c.args.disk.now in
    subst (λ (x : State). IsIn r m x c.stage.new.self) (sym (c.in-Err.ensures.same tells))
    (subst (IsIn r m s) (sym c.in-Err.ensures.rest) (in_same r m s c.args.self.now c.stage.new.self.state.dirty c.stage.new.self.nodes is c.in-Err.ensures.unstaged))

pub returns-in-Err-clause-sound : goal.returns-in-Err-clause-sound
returns-in-Err-clause-sound g c =
    fault_sound (Unit {0}) (IsTrue g.D.Disk.tells) c.in-Err.fault
    (λ tells.
    let some = c.requires.held tells in
    c.in-Err.ensures.sound tells some.rules some.machine (now_is some.rules some.machine (g.D.Disk.state c.args.disk.now) c.args.self.now (g.D.Disk.fixed c.args.disk.now).size c.requires.fits some.is))

pub log-requires-clause-logged : goal.log-requires-clause-logged
log-requires-clause-logged g c =
    let held = c.requires.fits.tree in
    is_logged held.tree held.is_tree c.args.command.now c.requires.change (c.requires.accepted held.tree held.is_tree held.holds)

pub log-requires-clause-current : goal.log-requires-clause-current
log-requires-clause-current g c tells =
    let some = c.requires.held tells in
    let s = g.D.Disk.state c.args.disk.now in
    let before = has_current some.rules some.machine s c.args.self.now some.is in
    subst (λ (x : State). HasCurrent c.self.inside.state.current.slot (root_of c.self.inside.state.current.body) x) (sym (c.in_default.ensures.same tells))
    (subst (λ (x : Memory). HasCurrent x.state.current.slot (root_of x.state.current.body) s) (sym (c.self.view_is ∙ c.in_default.ensures.rest)) before)

pub pending_with-pending-requires : goal.pending_with-pending-requires
pending_with-pending-requires g c =
    let after_staging = c.self.view_is ∙ c.in_default.ensures.rest in
    let pending = ap (λ (x : Memory). x.pending) after_staging in
    let free = ap (λ (x : Memory). x.free) after_staging in
    omega (arith, pending, free, c.requires.space, c.charge.ensures.is)

pub returns-in-Ok-clause-done : goal.returns-in-Ok-clause-done
returns-in-Ok-clause-done g c tells r m is due =
    let at = (goal.at.returns-in-Ok-clause-done g c).After-log in
    let v = c.args.self.now in
    let s = g.D.Disk.state c.args.disk.now in
    let size = (g.D.Disk.fixed c.args.disk.now).size in
    let t = g.D.Disk.state c.log.new.disk in
    let command = c.args.command.now in
    let d = c.stage.new.self.state.dirty in
    let nodes = c.stage.new.self.nodes in
    let next = c.in-Ok.current in
    let after_staging = c.self.view_is ∙ c.in_default.ensures.rest in
    let can = may g at tells r m is in
    let staged = subst (IsStaged m command s.contents) c.in_default.ensures.rest (c.in_default.ensures.staged tells r m (now_is r m s v size c.requires.fits is)) in
    let sum : c.pending_with-pending.result ≡ v.pending + charge command = c.pending_with-pending.ensures ∙ ap (λ (x : Memory). x.pending + c.charge.result) after_staging ∙ ap (λ (n : ℕ). v.pending + n) c.charge.ensures.is in
    let after = done_in r m s v size c.requires.fits is command c.table_holds_tree.ensures c.requires.change c.requires.accepted c.requires.space (g.D.Disk.state c.stage.new.disk) (c.in_default.ensures.same tells)
    c.always_coherent.ensures c.accepted_is_done.ensures c.table_stays.ensures d nodes next t c.requires.log due staged
    (subst (λ (x : Memory). root_of next.body ≡ next_root (root_of x.state.current.body) command) after_staging c.in-Ok.ensures.root)
    (c.in-Ok.ensures.current tells) (c.in-Ok.ensures.stands tells r m can) (c.in-Ok.ensures.seen tells r m can)
    (subst (λ (x : Memory). KeepsBeside (root_of x.state.current.body) command (g.D.Disk.state c.stage.new.disk).contents t.contents) after_staging (c.in-Ok.ensures.beside tells)) in
    subst (λ (x : Memory). IsIn r (done m command) t (record x { state = record x.state { current = next }; pending = c.pending_with-pending.result })) (sym after_staging)
    (subst (λ (n : ℕ). IsIn r (done m command) t (with_logged v d nodes next n)) (sym sum) after)

pub returns-in-Ok-clause-during : goal.returns-in-Ok-clause-during
returns-in-Ok-clause-during g c = moments g (goal.at.returns-in-Ok-clause-during g c).After-log

pub returns-in-Err-log-clause-during : goal.returns-in-Err-log-clause-during
returns-in-Err-log-clause-during g c = moments g (goal.at.returns-in-Err-log-clause-during g c).After-log

pub returns-in-Err-log-clause-left : goal.returns-in-Err-log-clause-left
returns-in-Err-log-clause-left g c tells r m is = c.in-Err-log.ensures.left tells r m (may g (goal.at.returns-in-Err-log-clause-left g c).After-log tells r m is)
