-- What a volume owes where the point that is due isn't taken, by the fault.
use Rattle.std.proofs.Common.{◌≡◌, ◌∙◌, ℕ, Bool, true, false, [], Some, None, refl, sym}
use Rattle.std.specs.Prelude.{◌≢◌, IsTrue, Ok, Err}
use Rattle.vol_numbers.specs.Cause.{raised}
use Rattle.disk_model.specs.Past.{Adds}
use Rattle.tree_model.specs.declared.command.Command.{Command}
use Rattle.tree_model.specs.declared.command.Command.TheVariants.{Mkdir, Create, Write, Truncate, Remove, Rename, Read, List as ListOf, Stat, Layout, Space, Checkpoint, End}
use Rattle.tree_model.specs.declared.refusal.Refusal.{Refusal}
use Rattle.tree_model.specs.declared.refusal.Refusal.TheVariants.{DeviceFault, Damaged, OutOfMemory}
use Rattle.tree_model.specs.declared.reply.Reply.TheVariants.{Refused}
use Rattle.tree_model.specs.declared.report.Report.{Report}
use Rattle.volume_model.specs.Legal.{is_due, is_excuse, is_outside}
use Rattle.volume_model.specs.Machine.{Machine, Rules}
use Rattle.volume_model.specs.Short.{answered, point_short, is_short}
use Rattle.consistency_point.specs.Cause.{HasPointCause, IsBeforeWrites}
use Rattle.consistency_point.specs.Taking.{StopsWithin}
use Rattle.consistency_point.specs.declared.fault.PointFault.{PointFault}
use Rattle.consistency_point.specs.declared.fault.PointFault.TheVariants as points
use Rattle.session_model.specs.Course.Last.{Untold, Stop}
use Rattle.session_model.specs.Follows.{Seen, IsAtRest}
use Rattle.session_model.specs.Given.{is_damaged}
use Rattle.volume_core.specs.Answers.{Applied, HasReplyCause, exchange}
use Rattle.volume_core.specs.Begun.{IfGiven, TellsNothingDone, untaken}
use Rattle.volume_core.specs.declared.given.Given.TheVariants as given
use Rattle.volume_core.specs.declared.given.Stopped.TheVariants.{Now}
use Rattle.volume_core.proofs.ReplyForms.{none_by_refusal}
use Rattle.volume_core.proofs.Pointing.{short_told, excused, stopped_at_point}

-- before a command at which a point is due, what comes from outside is an excuse
due_excuse : (m : Machine) (command : Command) (refusal : Refusal) → is_due m command ≡ true → is_outside (Refused refusal) ≡ true
    → is_excuse command (record { report = None; reply = Refused refusal }) ≡ true
due_excuse m (Mkdir path) refusal due outside = outside
due_excuse m (Create path) refusal due outside = outside
due_excuse m (Write path offset bytes) refusal due outside = outside
due_excuse m (Truncate path size) refusal due outside = outside
due_excuse m (Remove path) refusal due outside = outside
due_excuse m (Rename from to) refusal due outside = outside
due_excuse m (Read path offset len) refusal due outside = outside
due_excuse m (ListOf path) refusal due outside = outside
due_excuse m (Stat path) refusal due outside = outside
due_excuse m (Layout path) refusal due outside = outside
due_excuse m Space refusal due outside = cc
due_excuse m Checkpoint refusal due outside = rw outside refl
due_excuse m End refusal due outside = cc

-- The point was due and not taken, and nothing was done.
pub record WasNotTaken (r : Rules) (tells : Bool) (m : Machine) (command : Command) (fault : PointFault) (old new : Seen) : Type 0 where
  pub before : IsBeforeWrites fault
  pub due : IsTrue tells → is_due m command ≡ true
  pub short : (free : ℕ) → fault ≡ points.Short free → IsTrue tells → is_short m ≡ true
  pub sound : (b : ℕ) → fault ≡ points.Damaged b → IsTrue tells → ⊥
  pub state : IsTrue tells → new.state ≡ old.state
  pub moments : IsTrue tells → Adds old.past new.past (λ s. s ≡ old.state)
  pub cause : HasPointCause {T = Report} old.faults new.faults (Err fault)

module _ (r : Rules) (tells : Bool) (m : Machine) (command : Command) (old new : Seen) (rest : IsTrue tells → IsAtRest m old.state) where
  refused_owed : (fault : PointFault) (refusal : Refusal) → WasNotTaken r tells m command fault old new → is_outside (Refused refusal) ≡ true → (IsTrue tells → is_damaged (Refused refusal) ≡ false)
      → HasReplyCause old.faults new.faults (Refused refusal) → Applied r tells m command (Ok (given.Answered (record { report = None; reply = Refused refusal }))) old new
  refused_owed fault refusal was outside whole cause = record {
    last = Untold (exchange command (answered (record { report = None; reply = Refused refusal })));
    is_last = refl;
    applies = excused r tells m command old new rest was.state was.moments (Refused refusal) (λ t. due_excuse m command refusal (was.due t) outside) whole (none_by_refusal command None refusal) cause;
  }

  -- What is answered is owed.
  pub untaken_owed : (fault : PointFault) → WasNotTaken r tells m command fault old new → IfGiven (untaken fault) (λ answer. Applied r tells m command (Ok answer) old new)
  untaken_owed points.ReadFault was = refused_owed points.ReadFault DeviceFault was refl (λ t. refl) was.cause
  untaken_owed (points.Damaged b) was = refused_owed (points.Damaged b) (Damaged b) was refl (λ t. absurd (was.sound b refl t)) was.cause
  untaken_owed points.WriteFault was = tt
  untaken_owed points.OutOfMemory was = refused_owed points.OutOfMemory OutOfMemory was refl (λ t. refl) was.cause
  untaken_owed (points.Short free) was = record {
    last = Untold (exchange command point_short);
    is_last = refl;
    applies = short_told r tells m command old new rest was.state was.moments (λ t. rw (was.due t, was.short free refl t) refl) was.cause;
  }

  -- The point was due and has its blocks, and one of its writes failed.
  pub stop_owed : (IsTrue tells → is_due m command ≡ true) → (IsTrue tells → is_short m ≡ false) → (IsTrue tells → new.state.unsynced ≢ []) → (IsTrue tells → StopsWithin r m old.past new.past new.state)
      → new.faults ≡ raised old.faults → Applied r tells m command (Err Now) old new
  stop_owed due long unsynced stops faults = by tells refl
    where
      never : tells ≡ false → IsTrue tells → ⊥
      never e t = let both : false ≡ true = sym e ∙ t in cc

      by : (x : Bool) → tells ≡ x → Applied r tells m command (Err Now) old new
      by true e =
          let within = stops e in
          record {
            last = Stop command (Some within.report);
            is_last = (Some within.report, refl);
            applies = stopped_at_point r tells m command old new rest within.report due long (λ u. within.is_report.point) unsynced (λ u. within.left) (λ u. within.during) faults;
          }
      by false e =
          record {
            last = Stop command None;
            is_last = (None, refl);
            applies = record { legal = λ t. absurd (never e t); during = λ t. absurd (never e t); left = λ t. absurd (never e t); idle = λ t. absurd (never e t); faults = faults };
          }

-- Nothing is done by such an answer.
pub untaken_idle : (fault : PointFault) → IfGiven (untaken fault) TellsNothingDone
untaken_idle points.ReadFault = (refl, refl)
untaken_idle (points.Damaged b) = (refl, refl)
untaken_idle points.WriteFault = tt
untaken_idle points.OutOfMemory = (refl, refl)
untaken_idle (points.Short free) = (refl, refl)
