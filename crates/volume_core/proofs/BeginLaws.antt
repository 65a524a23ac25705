-- How a command is begun: with no point due, with the point that was due, or with one that wasn't taken.
use Rattle.std.proofs.Common.{◌≡◌, inl, inr, ℕ, Bool, true, false, List, [], ◌∷◌, Option, Some, None, refl, sym, subst}
use Rattle.std.specs.Prelude.{IsTrue, Result, Err, OnOk, OnErr}
use Rattle.vol_numbers.specs.Cause.{raised}
use Rattle.vol_numbers.specs.declared.block.Block.{Block}
use Rattle.disk_model.specs.Disk.{State, EachImage}
use Rattle.disk_model.specs.Past.{Adds}
use Rattle.disk_model.proofs.Moments.{adds_none, adds_weaker}
use Rattle.consistency_point.specs.Cause.{HasPointCause, IsBeforeWrites}
use Rattle.consistency_point.specs.Taking.{IsHeld, StandsBetween}
use Rattle.consistency_point.specs.declared.fault.PointFault.{PointFault}
use Rattle.consistency_point.specs.declared.fault.PointFault.TheVariants.{ReadFault, Damaged, WriteFault, OutOfMemory, Short}
use Rattle.point_plan.specs.declared.state.PointState.{PointState}
use Rattle.tree_model.specs.declared.command.Command.{Command}
use Rattle.tree_model.specs.declared.report.Report.{Report}
use Rattle.volume_model.specs.Legal.{is_due}
use Rattle.volume_model.specs.Machine.{Machine, Rules}
use Rattle.volume_model.specs.Point.{after_point, fresh_in}
use Rattle.volume_model.specs.ReportLaws.{IsReport}
use Rattle.volume_model.specs.Short.{is_short}
use Rattle.session_model.specs.Follows.{Seen, IsAtRest}
use Rattle.session_model.specs.Stages.{StandsForOne}
use Rattle.volume_core.specs.Begun.{HasBegun, IfReady, IfGiven, untaken}
use Rattle.volume_core.specs.Memory.{Memory, IsIn}
use Rattle.volume_core.specs.declared.given.Begun.{Begun}
use Rattle.volume_core.specs.declared.given.Given.{Given}
use Rattle.volume_core.specs.declared.given.Stopped.{Stopped}
use Rattle.volume_core.specs.declared.given.Stopped.TheVariants.{Now}

-- ---- memory after a point

-- After a point nothing is pending, and so many blocks are free as its report says.
pub point_in : (r : Rules) (m : Machine) (s t : State) (v : Memory) (state : PointState) (report : Report) → IsIn r m s v → IsReport r m report
    → IsHeld r (after_point r m (fresh_in report)) t state → IsIn r (after_point r m (fresh_in report)) t (record v { state = state; pending = 0; free = report.free })
point_in r m s t v state report is told held = record {
  alive = is.alive;
  holds = held;
  pending = refl;
  free = λ i. (told.point.is i).free;
}

-- ---- the command is to be answered

module _ (r : Rules) (tells : Bool) (m : Machine) (command : Command) where
  -- No point was due, and nothing was done.
  pub none_begun : (old : Seen) → (IsTrue tells → IsAtRest m old.state) → (IsTrue tells → is_due m command ≡ false) → HasBegun r tells m command None old old
  none_begun old rest due = record {
    reported = λ t. tt;
    due = due;
    long = λ t. rw (due t) refl;
    during = λ t. adds_none old.past (EachImage (StandsForOne (m ∷ m ∷ [])));
    left = rest;
    kept = λ t is. record { state = refl; moments = adds_none old.past (λ s. s ≡ old.state) };
    faults = refl;
  }

  -- The point that was due was taken.
  pub point_begun : (report : Report) (old new : Seen) → (IsTrue tells → is_due m command ≡ true) → (IsTrue tells → is_short m ≡ false) → (IsTrue tells → IsReport r m report)
      → (IsTrue tells → Adds old.past new.past (EachImage (StandsBetween r m report))) → (IsTrue tells → IsAtRest (after_point r m (fresh_in report)) new.state)
      → new.faults ≡ old.faults → HasBegun r tells m command (Some report) old new
  point_begun report old new due long told between left faults = record {
    reported = λ t. (due t, (told t).point);
    due = due;
    long = λ t. rw (due t, long t) refl;
    during = λ t. adds_weaker (between t) (λ s each image is. either image (each image is));
    left = left;
    kept = λ t is. cc;
    faults = faults;
  }
    where
      either : (image : List Block) → StandsBetween r m report image → StandsForOne (m ∷ after_point r m (fresh_in report) ∷ []) image
      either image (inl stands) = record { state = m; is_one = inl refl; stands = stands }
      either image (inr stands) = record { state = after_point r m (fresh_in report); is_one = inr (inl refl); stands = stands }

-- ---- the point wasn't taken

-- this of the answer, where the fault came before the first write
before_given : (fault : PointFault) (P : Given → Type 0) → (IsBeforeWrites fault → IfGiven (untaken fault) P) → IfGiven (untaken fault) P
before_given ReadFault P h = h tt
before_given (Damaged b) P h = h tt
before_given WriteFault P h = tt
before_given OutOfMemory P h = h tt
before_given (Short free) P h = h tt

-- this of the answer in each state
each_given : (fault : PointFault) (Q : Rules → Machine → Type 0) (P : Rules → Machine → Given → Type 0) → ((r : Rules) (m : Machine) → Q r m → IfGiven (untaken fault) (P r m))
    → IfGiven (untaken fault) (λ answer. (r : Rules) (m : Machine) → Q r m → P r m answer)
each_given ReadFault Q P h = h
each_given (Damaged b) Q P h = h
each_given WriteFault Q P h = tt
each_given OutOfMemory Q P h = h
each_given (Short free) Q P h = h

module _ (result : Result Begun Stopped) (fault : PointFault) (is : result ≡ untaken fault) where
  -- Then the command isn't to be answered any more,
  pub not_ready : (P : Option Report → Type 0) → IfReady result P
  not_ready P = subst (λ (x : Result Begun Stopped). IfReady x P) (sym is) (by fault)
    where
      by : (f : PointFault) → IfReady (untaken f) P
      by ReadFault = tt
      by (Damaged b) = tt
      by WriteFault = tt
      by OutOfMemory = tt
      by (Short free) = tt

  -- there is an answer where the fault came before the first write,
  pub given_owed : (Q : Rules → Machine → Type 0) (P : Rules → Machine → Given → Type 0) → (IsBeforeWrites fault → (r : Rules) (m : Machine) → Q r m → IfGiven (untaken fault) (P r m))
      → IfGiven result (λ answer. (r : Rules) (m : Machine) → Q r m → P r m answer)
  given_owed Q P h = subst (λ (x : Result Begun Stopped). IfGiven x (λ answer. (r : Rules) (m : Machine) → Q r m → P r m answer)) (sym is)
      (before_given fault (λ answer. (r : Rules) (m : Machine) → Q r m → P r m answer) (λ before. each_given fault Q P (h before)))

  pub given_told : (P : Given → Type 0) → IfGiven (untaken fault) P → IfGiven result P
  given_told P h = subst (λ (x : Result Begun Stopped). IfGiven x P) (sym is) h

  pub given_stays : (P : Type 0) → (IsBeforeWrites fault → P) → IfGiven result (λ answer. P)
  given_stays P h = subst (λ (x : Result Begun Stopped). IfGiven x (λ answer. P)) (sym is) (by fault h)
    where
      by : (f : PointFault) → (IsBeforeWrites f → P) → IfGiven (untaken f) (λ answer. P)
      by ReadFault h = h tt
      by (Damaged b) h = h tt
      by WriteFault h = tt
      by OutOfMemory h = h tt
      by (Short free) h = h tt

  pub ok_stays : (P : Type 0) → (IsBeforeWrites fault → P) → OnOk result P
  ok_stays P h = subst (λ (x : Result Begun Stopped). OnOk x P) (sym is) (by fault h)
    where
      by : (f : PointFault) → (IsBeforeWrites f → P) → OnOk (untaken f) P
      by ReadFault h = h tt
      by (Damaged b) h = h tt
      by WriteFault h = tt
      by OutOfMemory h = h tt
      by (Short free) h = h tt

  -- and a stop where a write failed.
  pub stop_told : (P : Type 0) → (fault ≡ WriteFault → P) → OnErr result P
  stop_told P h = subst (λ (x : Result Begun Stopped). OnErr x P) (sym is) (by fault h)
    where
      by : (f : PointFault) → (f ≡ WriteFault → P) → OnErr (untaken f) P
      by ReadFault h = tt
      by (Damaged b) h = tt
      by WriteFault h = h refl
      by OutOfMemory h = tt
      by (Short free) h = tt

  pub stops_now : OnErr result (result ≡ Err Now)
  stops_now = subst (λ (x : Result Begun Stopped). OnErr x (x ≡ Err Now)) (sym is) (by fault)
    where
      by : (f : PointFault) → OnErr (untaken f) (untaken f ≡ Err Now)
      by ReadFault = tt
      by (Damaged b) = tt
      by WriteFault = refl
      by OutOfMemory = tt
      by (Short free) = tt

-- A failed write isn't before the first write, and is counted.
pub not_before : (fault : PointFault) → fault ≡ WriteFault → IsBeforeWrites fault → ⊥
not_before fault e before = subst IsBeforeWrites e before

pub stop_counts : (old new : ℕ) (fault : PointFault) → fault ≡ WriteFault → HasPointCause {T = Report} old new (Err fault) → new ≡ raised old
stop_counts old new fault e cause = subst (λ (f : PointFault). HasPointCause {T = Report} old new (Err f)) e cause
