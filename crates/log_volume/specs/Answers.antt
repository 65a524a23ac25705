-- What a volume answers to a command, and which commands it logs.
use Rattle.std.specs.Prelude.{◌≡◌, ◌⊎◌, ◌+◌, ◌&&◌, ◌||◌, not, if◌then◌else◌, nat_le, ℕ, Bool, true, false, List, [], ◌∷◌, Result, Ok, Err, IsTrue}
use Rattle.tree_model.specs.declared.command.Command.{Command}
use Rattle.tree_model.specs.declared.command.Command.TheVariants.{End}
use Rattle.tree_model.specs.declared.refusal.Refusal.TheVariants.{BadCommand, OutOfMemory}
use Rattle.tree_model.specs.declared.reply.Reply.TheVariants as reply
use Rattle.tree_model.specs.Step.{step, is_plain, is_change}
use Rattle.op_log.specs.Record.{record_blocks}
use Rattle.log_volume.specs.Replay.{Kept}
use Rattle.log_volume.specs.declared.answer.Answer.{Answer}
use Rattle.log_volume.specs.declared.answer.Answer.TheVariants.{Reply, LogFull}

-- a command that is done, or not for want of room in the log
abbrev pub with_room : Bool → reply.the_data → Answer
with_room true given = Reply given
with_room false reply.Done = LogFull
with_room false given = Reply given

-- `end` is done. Commands on blocks, space and points aren't built.
abbrev pub unbuilt_reply : Command → Answer
unbuilt_reply End = Reply reply.Done
unbuilt_reply command = Reply (reply.Refused BadCommand)

-- the record of the command has room in a log of so many blocks
abbrev pub has_room : ℕ → Kept → Command → Bool
has_room room kept command = nat_le (kept.used + record_blocks command) room

-- The plain tree's reply, where the log has room for so many blocks. Only a change that the tree doesn't refuse takes room.
abbrev pub reply_to : ℕ → Kept → Command → Answer
reply_to room kept command = if is_plain command then with_room (not (is_change command) || has_room room kept command) (step kept.tree command).0 else unbuilt_reply command

abbrev pub is_out_of_memory : Answer → Bool
is_out_of_memory (Reply (reply.Refused OutOfMemory)) = true
is_out_of_memory answer = false

-- want of memory may be answered in the place of what the tree replies
abbrev pub is_excuse : Command → Answer → Bool
is_excuse command answer = is_plain command && is_out_of_memory answer

abbrev pub Legal : ℕ → Kept → Command → Answer → Type 0
Legal room kept command answer = (answer ≡ reply_to room kept command) ⊎ IsTrue (is_excuse command answer)

abbrev pub is_done : Answer → Bool
is_done (Reply reply.Done) = true
is_done answer = false

-- what an answered command adds to the log: itself, where it is a change that was done
abbrev pub accepted : Command → Answer → List Command
accepted command answer = if is_change command && is_done answer then command ∷ [] else []

-- the same of a command that was answered, or stopped at a fault of the disk
abbrev pub added : {E : Type 0} → ℕ → Kept → Command → Result Answer E → List Command
added room kept command (Ok answer) = accepted command answer
added room kept command (Err fault) = accepted command (reply_to room kept command)
