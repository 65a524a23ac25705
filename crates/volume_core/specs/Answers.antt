-- What a volume answers, and what comes of it.
use Rattle.std.specs.Prelude.{◌≡◌, ◌⊎◌, ℕ, not, ◌&&◌, if◌then◌else◌, Bool, false, IsTrue, Option, None, Result, Ok, Err}
use Rattle.tree_model.specs.declared.command.Command.{Command}
use Rattle.tree_model.specs.declared.command.Command.TheVariants.{Layout, Checkpoint, Read, Space}
use Rattle.tree_model.specs.declared.refusal.Refusal.{Refusal}
use Rattle.tree_model.specs.declared.refusal.Refusal.TheVariants.{DeviceFault, Damaged, OutOfMemory}
use Rattle.tree_model.specs.declared.reply.Reply.{Reply}
use Rattle.tree_model.specs.declared.reply.Reply.TheVariants as reply
use Rattle.tree_model.specs.declared.report.Answer.{Answer}
use Rattle.tree_model.specs.declared.report.Report.{Report}
use Rattle.tree_model.specs.Step.{step, is_change}
use Rattle.tree_model.specs.Tree.{Tree}
use Rattle.block_tree.specs.declared.fault.TreeFault.{TreeFault}
use Rattle.block_tree.specs.declared.fault.TreeFault.TheVariants as trees
use Rattle.vol_numbers.specs.Cause.{raised}
use Rattle.volume_model.specs.Done.{done}
use Rattle.volume_model.specs.Legal.{is_done, is_excuse, reply_to}
use Rattle.volume_model.specs.Machine.{Machine, Rules}
use Rattle.volume_model.specs.Short.{AnswerForNow, answered, point_short}
use Rattle.command_text.specs.declared.item.Item.TheVariants as item
use Rattle.session_model.specs.Course.{Exchange, Last}
use Rattle.session_model.specs.Course.Last.{Untold, Stop}
use Rattle.session_model.specs.Follows.{Seen}
use Rattle.session_model.specs.Given.{is_damaged, is_fault}
use Rattle.session_model.specs.Making.{Applies}
use Rattle.volume_core.specs.Memory.{Memory}
use Rattle.volume_core.specs.declared.given.Given.{Given}
use Rattle.volume_core.specs.declared.given.Given.TheVariants as given
use Rattle.volume_core.specs.declared.given.Stopped.{Stopped}
use Rattle.volume_core.specs.declared.given.Stopped.TheVariants.{Now, Before}

-- it is not `layout`, which is built later
abbrev pub IsBuilt : Command → Type 0
IsBuilt (Layout path) = ⊥
IsBuilt command = Unit {0}

-- it neither changes the tree nor asks for a point
abbrev pub only_looks : Command → Bool
only_looks (Layout path) = false
only_looks Checkpoint = false
only_looks command = not (is_change command)

-- it asks for what the nodes tell without the bytes of files, or for nothing
abbrev pub only_tells : Command → Bool
only_tells (Read path offset len) = false
only_tells Space = false
only_tells command = only_looks command

-- what is given, in the model's words
abbrev pub told_by : Given → AnswerForNow
told_by (given.Answered answer) = answered answer
told_by given.PointShort = point_short

-- the command with its answer
abbrev pub exchange : Command → AnswerForNow → Exchange
exchange command answer = record { item = item.Command command; answer = answer }

-- What the result is in a course: an answer, or a stop at the command, with the report of a point or with none.
abbrev pub IsLast : Command → Result Given Stopped → Last → Type 0
IsLast command (Ok given) last = last ≡ Untold (exchange command (told_by given))
IsLast command (Err Now) last = (report : Option Report) × (last ≡ Stop command report)
IsLast command (Err Before) last = ⊥

-- What a reply behind a report is in a course, or a stop behind it.
abbrev pub last_of : Command → Option Report → Result Reply Stopped → Last
last_of command report (Ok given) = Untold (exchange command (answered (record { report = report; reply = given })))
last_of command report (Err stopped) = Stop command report

-- What a volume owes in state m: some last item of a course that is this result, and all that is owed by it.
pub record Applied (r : Rules) (tells : Bool) (m : Machine) (command : Command) (result : Result Given Stopped) (old new : Seen) : Type 0 where
  pub last : Last
  pub is_last : IsLast command result last
  pub applies : Applies r tells m last old new

-- The reply of an answer is the model's in this state, or an excuse. It is never that a block is damaged.
pub record IsReplyIn (m : Machine) (command : Command) (answer : Answer) : Type 0 where
  pub is : (answer.reply ≡ reply_to m command) ⊎ IsTrue (is_excuse command answer)
  pub whole : is_damaged answer.reply ≡ false

-- the same of a reply with no report
abbrev pub IsReplyTo : Machine → Command → Reply → Type 0
IsReplyTo m command reply = IsReplyIn m command (record { report = None; reply = reply })

-- a fault of the device is counted once where the reply says so, and nothing else is
abbrev pub HasReplyCause : ℕ → ℕ → Reply → Type 0
HasReplyCause old new reply = new ≡ (if is_fault reply then raised old else old)

-- A reply is the tree's, or where that is an excuse that memory is wanting.
abbrev pub IsTold : Tree → Command → Reply → Type 0
IsTold tree command given = (given ≡ (step tree command).0) ⊎ ((given ≡ reply.Refused OutOfMemory) × IsTrue (is_excuse command (record { report = None; reply = given })))

-- the answer to `space`
abbrev pub space_of : Memory → Reply
space_of v = reply.Space v.free v.pending v.state.current.body.log_used

-- the state after a reply
abbrev pub after_reply : Machine → Command → Reply → Machine
after_reply m command given = if is_change command && is_done given then done m command else m

-- the refusal for a fault
abbrev pub refusal_by : TreeFault → Refusal
refusal_by trees.Device = DeviceFault
refusal_by (trees.Damaged block) = Damaged block
refusal_by trees.OutOfMemory = OutOfMemory
