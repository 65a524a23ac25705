-- How a command is begun: by the point that is due, if one is.
use Rattle.std.specs.Prelude.{◌≡◌, ◌&&◌, Bool, false, IsTrue, [], ◌∷◌, Option, None, is_some, Result, Ok, Err}
use Rattle.consistency_point.specs.declared.fault.PointFault.{PointFault}
use Rattle.consistency_point.specs.declared.fault.PointFault.TheVariants as points
use Rattle.disk_model.specs.Disk.{EachImage}
use Rattle.disk_model.specs.Past.{Adds}
use Rattle.tree_model.specs.declared.command.Command.{Command}
use Rattle.tree_model.specs.declared.refusal.Refusal.{Refusal}
use Rattle.tree_model.specs.declared.refusal.Refusal.TheVariants.{DeviceFault, Damaged, OutOfMemory}
use Rattle.tree_model.specs.declared.reply.Reply.TheVariants.{Refused}
use Rattle.tree_model.specs.declared.report.Report.{Report}
use Rattle.volume_model.specs.Legal.{MayReport, is_due, when_answered}
use Rattle.volume_model.specs.Machine.{Machine, Rules}
use Rattle.volume_model.specs.Short.{is_short}
use Rattle.session_model.specs.Follows.{Seen, IsAtRest, IsKept}
use Rattle.session_model.specs.Given.{report_in, says_done}
use Rattle.session_model.specs.Stages.{StandsForOne}
use Rattle.volume_core.specs.Answers.{told_by}
use Rattle.volume_core.specs.declared.given.Begun.{Begun}
use Rattle.volume_core.specs.declared.given.Begun.TheVariants as begun
use Rattle.volume_core.specs.declared.given.Given.{Given}
use Rattle.volume_core.specs.declared.given.Given.TheVariants as given
use Rattle.volume_core.specs.declared.given.Stopped.{Stopped}
use Rattle.volume_core.specs.declared.given.Stopped.TheVariants.{Now}

-- What the point that was due made of a disk, or that none was due and nothing was done. The volume is in the state in which the command is answered.
pub record HasBegun (r : Rules) (tells : Bool) (m : Machine) (command : Command) (report : Option Report) (old new : Seen) : Type 0 where
  pub reported : IsTrue tells → MayReport r m command report
  pub due : IsTrue tells → is_due m command ≡ is_some report
  pub long : IsTrue tells → (is_due m command && is_short m) ≡ false
  pub during : IsTrue tells → Adds old.past new.past (EachImage (StandsForOne (m ∷ when_answered r m report ∷ [])))
  pub left : IsTrue tells → IsAtRest (when_answered r m report) new.state
  pub kept : IsTrue tells → report ≡ None → IsKept old new
  pub faults : new.faults ≡ old.faults

-- this of the report, where the command is to be answered
abbrev pub IfReady : Result Begun Stopped → (Option Report → Type 0) → Type 0
IfReady (Ok (begun.Ready report)) P = P report
IfReady (Ok (begun.Given answer)) P = Unit {0}
IfReady (Err stopped) P = Unit {0}

-- this of the answer, where the point wasn't taken
abbrev pub IfGiven : Result Begun Stopped → (Given → Type 0) → Type 0
IfGiven (Ok (begun.Ready report)) P = Unit {0}
IfGiven (Ok (begun.Given answer)) P = P answer
IfGiven (Err stopped) P = Unit {0}

-- an answer by which nothing was done: it has no report, and doesn't say so
abbrev pub TellsNothingDone : Given → Type 0
TellsNothingDone answer = (says_done (told_by answer) ≡ false) × (report_in (told_by answer) ≡ None)

-- refused, with no report
abbrev pub refused : Refusal → Result Begun Stopped
refused refusal = Ok (begun.Given (given.Answered (record { report = None; reply = Refused refusal })))

-- What a point that isn't taken is answered, or that a write of it failed.
abbrev pub untaken : PointFault → Result Begun Stopped
untaken points.ReadFault = refused DeviceFault
untaken (points.Damaged b) = refused (Damaged b)
untaken points.OutOfMemory = refused OutOfMemory
untaken (points.Short free) = Ok (begun.Given given.PointShort)
untaken points.WriteFault = Err Now
