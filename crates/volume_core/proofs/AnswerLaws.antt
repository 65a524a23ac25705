-- What an answer owes and leads to, by how the command was begun and what was replied.
use Rattle.std.proofs.Common.{◌≡◌, Bool, true, false, cond, [], ◌∷◌, Option, None, inl, inr, refl}
use Rattle.std.specs.Prelude.{◌&&◌, Result, Ok, Err}
use Rattle.tree_model.specs.declared.command.Command.{Command}
use Rattle.tree_model.specs.declared.reply.Reply.{Reply}
use Rattle.tree_model.specs.declared.reply.Reply.TheVariants.{Done}
use Rattle.tree_model.specs.declared.report.Report.{Report}
use Rattle.tree_model.specs.Step.{is_change}
use Rattle.volume_model.specs.Done.{all_done, done}
use Rattle.volume_model.specs.Legal.{is_done, when_answered}
use Rattle.volume_model.specs.Machine.{Machine, Rules}
use Rattle.volume_model.specs.Short.{AnswerForNow, answered}
use Rattle.session_model.specs.Course.{next_by}
use Rattle.session_model.specs.Follows.{Seen}
use Rattle.session_model.specs.Given.{report_in, says_done}
use Rattle.session_model.specs.Making.{Applies}
use Rattle.volume_core.specs.Answers.{after_reply, exchange, last_of}
use Rattle.volume_core.specs.Begun.{HasBegun}
use Rattle.volume_core.specs.Replied.{Replied}
use Rattle.volume_core.specs.declared.given.Stopped.{Stopped}
use Rattle.volume_core.specs.declared.given.Stopped.TheVariants.{Now, Before}
use Rattle.volume_core.proofs.Applying.{idle, changed, stopped}

-- it is the state after the reply, behind the point of its report
pub next_is_after : (r : Rules) (m : Machine) (command : Command) (report : Option Report) (given : Reply)
    → next_by r m (exchange command (answered (record { report = report; reply = given }))) ≡ after_reply (when_answered r m report) command given
next_is_after r m command report given = by (is_change command && is_done given)
  where
    by : (x : Bool) → all_done (when_answered r m report) (cond x (command ∷ []) []) ≡ cond x (done (when_answered r m report) command) (when_answered r m report)
    by true = refl
    by false = refl

-- by one that tells of nothing done the state stays
pub stays_by : (r : Rules) (m : Machine) (command : Command) (given : AnswerForNow) → says_done given ≡ false → report_in given ≡ None → next_by r m (exchange command given) ≡ m
stays_by r m command given none no_report = rw no_report (by (is_change command) (says_done given) none)
  where
    by : (x y : Bool) → y ≡ false → all_done m (cond (x && y) (command ∷ []) []) ≡ m
    by true y e = rw e refl
    by false y e = refl

-- What was replied is owed, behind the point.
pub replied_owed : (r : Rules) (m : Machine) (command : Command) (report : Option Report) {tells : Bool} (old mid new : Seen) → HasBegun r tells m command report old mid → (result : Result Reply Stopped)
    → Replied tells (when_answered r m report) command result mid new → Applies r tells m (last_of command report result) old new
replied_owed r m command report {tells = tells} old mid new begun (Ok given) (inl x) =
    idle r tells m command report given old mid new begun (λ t. (x.kept t).state) (λ t. (x.kept t).moments) (λ t. x.owed t report) (x.nothing report) x.cause
replied_owed r m command report {tells = tells} old mid new begun (Ok given) (inr x) = changed r tells m command report given old mid new begun x.is x.change x.owed x.rest x.during x.faults
replied_owed r m command report {tells = tells} old mid new begun (Err Now) x = stopped r tells m command report Done old mid new begun x.takes x.room x.unsynced x.left x.during x.faults
replied_owed r m command report {tells = tells} old mid new begun (Err Before) x = absurd x
