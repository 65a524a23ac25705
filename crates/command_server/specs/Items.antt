-- What the items of a session are answered.
use Rattle.std.specs.Prelude.{◌≡◌, ℕ, List, [], Result, Ok, Err}
use Rattle.tree_model.specs.declared.command.Command.{Command}
use Rattle.tree_model.specs.declared.reply.Reply.TheVariants as reply
use Rattle.log_volume.specs.Answers.{Legal, added}
use Rattle.log_volume.specs.Replay.{Kept}
use Rattle.log_volume.specs.declared.answer.Answer.{Answer}
use Rattle.log_volume.specs.declared.answer.Answer.TheVariants.{Reply}
use Rattle.log_volume.specs.declared.answer.Stopped.{Stopped}
use Rattle.command_text.specs.declared.item.Item.{Item}
use Rattle.command_text.specs.declared.item.Item.TheVariants.{Command as TheCommand, Refused, Ended}

-- what came of an item: an answer, or a stop of the volume
abbrev pub Outcome : Type 0
Outcome = Result Answer Stopped

-- A command gets a legal answer, or the volume stops at it. A line that is no command gets its refusal.
abbrev pub IsLegal : ℕ → Kept → Item → Outcome → Type 0
IsLegal room kept (TheCommand command) (Ok answer) = Legal room kept command answer
IsLegal room kept (TheCommand command) (Err stopped) = Unit {0}
IsLegal room kept (Refused refusal) (Ok answer) = answer ≡ Reply (reply.Refused refusal)
IsLegal room kept (Refused refusal) (Err stopped) = ⊥
IsLegal room kept Ended outcome = ⊥

-- what an item adds to the log, by what came of it
abbrev pub added_by : ℕ → Kept → Item → Outcome → List Command
added_by room kept (TheCommand command) outcome = added room kept command outcome
added_by room kept (Refused refusal) outcome = []
added_by room kept Ended outcome = []
