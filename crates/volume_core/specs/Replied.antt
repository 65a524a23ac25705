-- What replying to a command does, in the state in which it is answered: no point is due at it any more.
use Rattle.std.specs.Prelude.{◌≡◌, ◌≢◌, ◌⊎◌, Bool, true, false, IsTrue, [], Option, Result, Ok, Err}
use Rattle.vol_numbers.specs.Cause.{raised}
use Rattle.disk_model.specs.Disk.{EachImage}
use Rattle.disk_model.specs.Past.{Adds}
use Rattle.command_log.specs.Logging.{StandsForEither}
use Rattle.tree_model.specs.declared.command.Command.{Command}
use Rattle.tree_model.specs.declared.reply.Reply.{Reply}
use Rattle.tree_model.specs.declared.reply.Reply.TheVariants.{Done}
use Rattle.tree_model.specs.declared.report.Report.{Report}
use Rattle.tree_model.specs.Step.{is_change}
use Rattle.volume_model.specs.Done.{done}
use Rattle.volume_model.specs.Legal.{changes, is_full, reply_to}
use Rattle.volume_model.specs.Machine.{Machine}
use Rattle.volume_model.specs.Short.{answered}
use Rattle.session_model.specs.Course.{accepted_by}
use Rattle.session_model.specs.Follows.{Seen, IsAtRest, IsKept}
use Rattle.volume_core.specs.Answers.{HasReplyCause, IsReplyIn, exchange}
use Rattle.volume_core.specs.declared.given.Stopped.{Stopped}
use Rattle.volume_core.specs.declared.given.Stopped.TheVariants.{Now, Before}

-- The reply is owed behind any report, nothing was done, and a fault of the device is counted once where the reply says so.
pub record IsIdleReply (tells : Bool) (m : Machine) (command : Command) (given : Reply) (old new : Seen) : Type 0 where
  pub owed : IsTrue tells → (report : Option Report) → IsReplyIn m command (record { report = report; reply = given })
  pub nothing : (report : Option Report) → accepted_by (exchange command (answered (record { report = report; reply = given }))) ≡ []
  pub kept : IsTrue tells → IsKept old new
  pub cause : HasReplyCause old.faults new.faults given

-- The change was done: at each moment each image stands for what is stored before it or after it, and in the end the disk is at rest after it.
pub record IsDoneReply (tells : Bool) (m : Machine) (command : Command) (given : Reply) (old new : Seen) : Type 0 where
  pub is : given ≡ Done
  pub change : is_change command ≡ true
  pub owed : IsTrue tells → reply_to m command ≡ Done
  pub rest : IsTrue tells → IsAtRest (done m command) new.state
  pub during : IsTrue tells → Adds old.past new.past (EachImage (StandsForEither m command))
  pub faults : new.faults ≡ old.faults

-- A write or a sync failed at a change that the tree takes and that has space. Each image stands for what is stored before it or after it.
pub record IsStoppedAt (tells : Bool) (m : Machine) (command : Command) (old new : Seen) : Type 0 where
  pub takes : IsTrue tells → changes m command ≡ true
  pub room : IsTrue tells → is_full m command ≡ false
  pub unsynced : IsTrue tells → new.state.unsynced ≢ []
  pub left : IsTrue tells → EachImage (StandsForEither m command) new.state
  pub during : IsTrue tells → Adds old.past new.past (EachImage (StandsForEither m command))
  pub faults : new.faults ≡ raised old.faults

-- one of these, by the result
abbrev pub Replied : Bool → Machine → Command → Result Reply Stopped → Seen → Seen → Type 0
Replied tells m command (Ok given) old new = IsIdleReply tells m command given old new ⊎ IsDoneReply tells m command given old new
Replied tells m command (Err Now) old new = IsStoppedAt tells m command old new
Replied tells m command (Err Before) old new = ⊥
