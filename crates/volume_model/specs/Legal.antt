-- When a point is due, which answers may be given, and the state after an answer.
use Rattle.std.specs.Prelude.{◌≡◌, ◌⊎◌, ℕ, ◌+◌, Bool, true, false, not, ◌&&◌, ◌||◌, if◌then◌else◌, IsTrue, List, [], ◌∷◌, nat_lt, Option, Some, None, is_some}
use Rattle.tree_model.specs.declared.command.Command.{Command}
use Rattle.tree_model.specs.declared.command.Command.TheVariants.{Layout, Space, Checkpoint, End}
use Rattle.tree_model.specs.declared.node.Node.{Node}
use Rattle.tree_model.specs.declared.refusal.Refusal.{Refusal}
use Rattle.tree_model.specs.declared.refusal.Refusal.TheVariants.{NoSpace, DeviceFault, Damaged, OutOfMemory}
use Rattle.tree_model.specs.declared.reply.Reply.{Reply}
use Rattle.tree_model.specs.declared.reply.Reply.TheVariants as reply
use Rattle.tree_model.specs.declared.report.Report.{Report}
use Rattle.tree_model.specs.declared.report.Answer.{Answer}
use Rattle.tree_model.specs.Tree.{node_at}
use Rattle.tree_model.specs.Step.{step, is_change, refusal_of}
use Rattle.op_log.specs.Record.{record_blocks}
use Rattle.space_account.specs.Charge.{charge, reserve, need, pending}
use Rattle.volume_model.specs.Done.{done}
use Rattle.volume_model.specs.LogUse.{log_use}
use Rattle.volume_model.specs.Machine.{Machine, Rules, free_of}
use Rattle.volume_model.specs.Pieces.{pieces}
use Rattle.volume_model.specs.Point.{IsPoint, after_point, fresh_in, report_of}

abbrev pub is_nothing : {A : Type 0} → List A → Bool
is_nothing [] = true
is_nothing (x ∷ xs) = false

-- a change that the tree doesn't refuse
abbrev pub changes : Machine → Command → Bool
changes m command = is_change command && not (is_some (refusal_of m.tree command))

-- the record has no room in the log, or its charge and reserve haven't beside the charges of the records
abbrev pub lacks_room : Machine → Command → Bool
lacks_room m command =
    nat_lt m.layout.log_blocks (log_use m.records + record_blocks command) || nat_lt (free_of m) (pending m.records + charge command + reserve command)

-- A point is due before a checkpoint, and before a change that lacks room behind others.
abbrev pub is_due : Machine → Command → Bool
is_due m Checkpoint = true
is_due m command = changes m command && not (is_nothing m.records) && lacks_room m command

-- nothing is pending, and there is too little for the command alone
abbrev pub is_full : Machine → Command → Bool
is_full m command = is_nothing m.records && nat_lt (free_of m) (need command)

-- the tree's refusal, or the pieces of the file
abbrev pub layout_reply : Machine → Option Node → Option Refusal → Reply
layout_reply m found (Some refusal) = reply.Refused refusal
layout_reply m None None = reply.Layout []
layout_reply m (Some node) None = reply.Layout (pieces m node.number)

-- the reply in a state that no point comes before
abbrev pub reply_to : Machine → Command → Reply
reply_to m Space = reply.Space (free_of m) (pending m.records) (log_use m.records)
reply_to m (Layout path) = layout_reply m (node_at m.tree path) (refusal_of m.tree (Layout path))
reply_to m command = if changes m command && is_full m command then reply.Refused (NoSpace (free_of m) (need command)) else (step m.tree command).0

-- a fault of the device, a damaged block, or want of memory
abbrev pub is_outside : Reply → Bool
is_outside (reply.Refused DeviceFault) = true
is_outside (reply.Refused (Damaged block)) = true
is_outside (reply.Refused OutOfMemory) = true
is_outside given = false

-- such a reply may be given to all but two commands, to a checkpoint only where there is no report
abbrev pub is_excuse : Command → Answer → Bool
is_excuse Space answer = false
is_excuse End answer = false
is_excuse Checkpoint answer = is_outside answer.reply && not (is_some answer.report)
is_excuse command answer = is_outside answer.reply

-- the state in which the command is answered: after the point, if there was one
abbrev pub when_answered : Rules → Machine → Option Report → Machine
when_answered r m None = m
when_answered r m (Some report) = after_point r m (fresh_in report)

-- A report is of a point that was due.
abbrev pub MayReport : Rules → Machine → Command → Option Report → Type 0
MayReport r m command None = Unit {0}
MayReport r m command (Some report) = (is_due m command ≡ true) × IsPoint r m report

-- A point that was due was taken, and the reply is that of the state after it; or there is an excuse.
abbrev pub Replies : Rules → Machine → Command → Answer → Type 0
Replies r m command answer =
    ((is_due m command ≡ is_some answer.report) × (answer.reply ≡ reply_to (when_answered r m answer.report) command)) ⊎ IsTrue (is_excuse command answer)

-- the answers that may be given to a command
pub record IsLegal (r : Rules) (m : Machine) (command : Command) (answer : Answer) : Type 0 where
  pub report : MayReport r m command answer.report
  pub reply : Replies r m command answer

abbrev pub is_done : Reply → Bool
is_done reply.Done = true
is_done given = false

-- the state after an answer
abbrev pub next : Rules → Machine → Command → Answer → Machine
next r m command answer =
    let now = when_answered r m answer.report in
    if is_change command && is_done answer.reply then done now command else now

-- the answer with a point that gets these fresh blocks, or with none
abbrev pub answer_after : Rules → Machine → Command → List ℕ → Bool → Answer
answer_after r m command fresh true = record { report = Some (report_of r m fresh); reply = reply_to (after_point r m fresh) command }
answer_after r m command fresh false = record { report = None; reply = reply_to m command }

-- the answer that is no excuse, where a point that is due gets these fresh blocks
abbrev pub answer_with : Rules → Machine → Command → List ℕ → Answer
answer_with r m command fresh = answer_after r m command fresh (is_due m command)

-- the fresh blocks that an answer tells of
abbrev pub fresh_told : Option Report → List ℕ
fresh_told None = []
fresh_told (Some report) = fresh_in report
