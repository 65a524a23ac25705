-- What a volume owes where a point isn't taken, or fails.
use Rattle.std.proofs.Common.{◌≡◌, inl, inr, Bool, true, false, cond, List, [], ◌∷◌, Some, None, refl, sym, subst, arith}
use Rattle.std.specs.Prelude.{◌≢◌, ◌&&◌, IsTrue}
use Rattle.vol_numbers.specs.Cause.{raised}
use Rattle.vol_numbers.specs.declared.block.Block.{Block}
use Rattle.disk_model.specs.Disk.{State, EachImage}
use Rattle.disk_model.specs.Past.{Adds}
use Rattle.disk_model.proofs.Moments.{adds_weaker}
use Rattle.tree_model.specs.declared.command.Command.{Command}
use Rattle.tree_model.specs.declared.reply.Reply.{Reply}
use Rattle.tree_model.specs.declared.report.Report.{Report}
use Rattle.tree_model.specs.Step.{is_change}
use Rattle.volume_model.specs.Legal.{is_due, is_excuse}
use Rattle.volume_model.specs.Machine.{Machine, Rules, stored}
use Rattle.volume_model.specs.Point.{IsPoint, after_point, fresh_in}
use Rattle.volume_model.specs.Short.{IsLegalForNow, answered, point_short, is_short}
use Rattle.session_model.specs.Course.{accepted_by, accepted_at_stop, after, next_by}
use Rattle.session_model.specs.Course.Last.{Untold, Stop}
use Rattle.session_model.specs.Follows.{Seen, IsAtRest, raised_by}
use Rattle.session_model.specs.Given.{is_damaged, is_fault}
use Rattle.session_model.specs.Making.{Applies}
use Rattle.session_model.specs.Stages.{StandsForOne}
use Rattle.session_model.proofs.Stored.{synced_stands}
use Rattle.volume_core.specs.Answers.{HasReplyCause, exchange}
use Rattle.consistency_point.specs.Taking.{StandsBetween}

-- at rest, an image stands for the state
rests : (m : Machine) (s : State) (x : Machine) → IsAtRest m s → EachImage (StandsForOne (m ∷ m ∷ x ∷ [])) s
rests m s x rest image is = record { state = m; is_one = inl refl; stands = synced_stands s (stored m) rest.synced rest.stands image is }

none_of : (x : Bool) (command : Command) → cond (x && false) (command ∷ []) [] ≡ []
none_of true command = refl
none_of false command = refl

module _ (r : Rules) (tells : Bool) (m : Machine) (command : Command) (old new : Seen) (rest : IsTrue tells → IsAtRest m old.state) where
  -- ---- nothing was done

  module _ (state : IsTrue tells → new.state ≡ old.state) (moments : IsTrue tells → Adds old.past new.past (λ s. s ≡ old.state)) where
    stays : (x : Machine) → IsTrue tells → Adds old.past new.past (EachImage (StandsForOne (m ∷ m ∷ x ∷ [])))
    stays x t = adds_weaker (moments t) (λ s e. subst (EachImage (StandsForOne (m ∷ m ∷ x ∷ []))) (sym e) (rests m old.state x (rest t)))

    -- The point that is due lacks blocks, and the answer says so.
    pub short_told : (IsTrue tells → (is_due m command && is_short m) ≡ true) → new.faults ≡ old.faults → Applies r tells m (Untold (exchange command point_short)) old new
    short_told lacks faults = record {
      legal = λ t. (rw (lacks t) tt, refl);
      during = λ t. stays (next_by r m (exchange command point_short)) t;
      left = λ t. rw (none_of (is_change command) command) (subst (IsAtRest m) (sym (state t)) (rest t));
      idle = λ t is. record { state = state t; moments = moments t };
      faults = omega (arith, faults);
    }

    -- The command gets an excuse, and nothing was done.
    pub excused : (given : Reply) → (IsTrue tells → IsTrue (is_excuse command (record { report = None; reply = given }))) → (IsTrue tells → is_damaged given ≡ false)
        → accepted_by (exchange command (answered (record { report = None; reply = given }))) ≡ [] → HasReplyCause old.faults new.faults given
        → Applies r tells m (Untold (exchange command (answered (record { report = None; reply = given })))) old new
    excused given excuse whole nothing cause = record {
      legal = λ t. (by t (is_due m command && is_short m) refl, whole t);
      during = λ t. stays (next_by r m (exchange command (answered (record { report = None; reply = given })))) t;
      left = λ t. rw nothing (subst (IsAtRest m) (sym (state t)) (rest t));
      idle = λ t is. record { state = state t; moments = moments t };
      faults = counted (is_fault given) cause;
    }
      where
        by : (t : IsTrue tells) (x : Bool) → (is_due m command && is_short m) ≡ x → IsLegalForNow r m command (answered (record { report = None; reply = given }))
        by t true e = rw e (refl, excuse t)
        by t false e = rw e (record { report = tt; reply = inr (excuse t) })

        counted : (x : Bool) → new.faults ≡ cond x (raised old.faults) old.faults → new.faults ≡ raised_by (cond x 1 0) old.faults
        counted true e = e
        counted false e = omega (arith, e)

  -- ---- the point failed

  -- The volume stopped at the point that was due.
  pub stopped_at_point : (report : Report) → (IsTrue tells → is_due m command ≡ true) → (IsTrue tells → is_short m ≡ false) → (IsTrue tells → IsPoint r m report)
      → (IsTrue tells → new.state.unsynced ≢ []) → (IsTrue tells → EachImage (StandsBetween r m report) new.state)
      → (IsTrue tells → Adds old.past new.past (EachImage (StandsBetween r m report))) → new.faults ≡ raised old.faults → Applies r tells m (Stop command (Some report)) old new
  stopped_at_point report due long point unsynced left during faults = record {
    legal = λ t. record { writes = rw (due t, long t) refl; due = due t; point = (due t, point t) };
    during = λ t. adds_weaker (during t) (λ s each image is. either image (each image is));
    left = λ t. (unsynced t, λ image is. either image (left t image is));
    idle = λ t is. cc;
    faults = faults;
  }
    where
      either : (image : List Block) → StandsBetween r m report image → StandsForOne (m ∷ after_point r m (fresh_in report) ∷ after r m (Some report) (accepted_at_stop r m command (Some report)) ∷ []) image
      either image (inl stands) = record { state = m; is_one = inl refl; stands = stands }
      either image (inr stands) = record { state = after_point r m (fresh_in report); is_one = inr (inl refl); stands = stands }
