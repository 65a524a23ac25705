-- What the words of a course mean, and what can't come of one.
use Rattle.std.specs.Prelude.{◌≡◌, ◌≢◌, ◌≤◌, ◌<◌, ◌+◌, ◌^◌, ◌++◌, ◌&&◌, not, ℕ, Bool, true, false, List, [], ◌∷◌, length, Option, IsTrue}
use Rattle.disk_model.specs.Disk.{State, EachImage}
use Rattle.tree_model.specs.declared.command.Command.{Command}
use Rattle.tree_model.specs.declared.command.Command.TheVariants.{Checkpoint}
use Rattle.tree_model.specs.declared.report.Report.{Report}
use Rattle.tree_model.specs.Step.{is_change}
use Rattle.reply_text.specs.Telling.{IsAnswer}
use Rattle.volume_model.specs.Machine.{Machine, Rules}
use Rattle.volume_model.specs.Short.{AnswerForNow, answered, point_short, next_for_now}
use Rattle.state_laws.specs.States.{IsReached}
use Rattle.command_text.specs.declared.item.Item.{Item}
use Rattle.command_text.specs.declared.item.Item.TheVariants as item
use Rattle.session_model.specs.Given.{given_text}
use Rattle.session_model.specs.Course.{Course, Exchange, Last, accepted, acknowledged, before_last, end_of, next_by}
use Rattle.session_model.specs.Course.Last.{Nothing, Untold, Stop}
use Rattle.session_model.specs.Stages.{StandsForPrefix, last_stages}
use Rattle.session_model.specs.Follows.{Seen, Follows, Leaves, IsKept, faults_in}

-- ---- what the words mean

-- The state after an exchange of a command is the model's next one.
abbrev pub NextIs : Type 0
NextIs = (r : Rules) (m : Machine) (command : Command) (answer : AnswerForNow) → next_by r m (record { item = item.Command command; answer = answer }) ≡ next_for_now r m command answer

-- The acknowledged changes are the first of the accepted ones, and at most one more is accepted.
pub record AtMostOneMore (acknowledged accepted : List Command) : Type 0 where
  pub more : List Command
  pub are : accepted ≡ acknowledged ++ more
  pub at_most : length more ≤ 1

-- It is so of each course.
abbrev pub AcknowledgedFirst : Type 0
AcknowledgedFirst = (r : Rules) (c : Course) → AtMostOneMore (acknowledged c) (accepted r c)

-- Whatever a power cut leaves at the exit stands for a state whose tree has all acknowledged changes.
abbrev pub ExitStands : Type 0
ExitStands = (r : Rules) (c : Course) (s : State) → Leaves r c c.last s → EachImage (StandsForPrefix r c (last_stages r (before_last r c) c.last) (length (acknowledged c))) s

-- Each state in which an item is answered is reached from the start, and so is the last, unless the volume stopped.
pub record StatesAreReached (tells : Bool) (old new : Seen) : Type 0 where
  pub before : (r : Rules) (c : Course) → IsTrue tells → IsReached r c.start → Follows r tells c old new → IsReached r (before_last r c)
  pub in_the_end : (r : Rules) (c : Course) → IsTrue tells → IsReached r c.start → ((command : Command) (report : Option Report) → c.last ≢ Stop command report)
      → Follows r tells c old new → IsReached r (end_of r c)

-- ---- what can't come

-- neither a change nor a point
abbrev pub only_reads : Command → Bool
only_reads Checkpoint = false
only_reads command = not (is_change command)

-- an item that asks for neither
abbrev pub item_reads : Item → Bool
item_reads (item.Command command) = only_reads command
item_reads (item.Refused refusal) = true
item_reads item.Ended = true

-- each item asks only for what is read, and so does the last
abbrev pub each_reads : List Exchange → Last → Bool
each_reads [] Nothing = true
each_reads [] (Untold e) = item_reads e.item
each_reads [] (Stop command report) = only_reads command
each_reads (e ∷ es) last = item_reads e.item && each_reads es last

-- Where nothing is asked for but what is read, nothing is written, and no volume stops.
abbrev pub ReadsKeep : Bool → Seen → Seen → Type 0
ReadsKeep tells old new = (r : Rules) (c : Course) → IsTrue tells → each_reads c.told c.last ≡ true → Follows r tells c old new → IsKept old new

-- A volume stops only where its device has failed once more.
abbrev pub StopIsCounted : Bool → Seen → Seen → Type 0
StopIsCounted tells old new = (r : Rules) (c : Course) (command : Command) (report : Option Report) → c.last ≡ Stop command report → old.faults + 1 < 2 ^ 64 → Follows r tells c old new → old.faults < new.faults

-- Below the end of the count, the device has failed exactly as often as the answers and a stop say.
abbrev pub FaultsAreExact : Bool → Seen → Seen → Type 0
FaultsAreExact tells old new = (r : Rules) (c : Course) → old.faults + faults_in c.told c.last < 2 ^ 64 → Follows r tells c old new → new.faults ≡ old.faults + faults_in c.told c.last

-- ---- texts

-- an answer of the program, or that a point lacks blocks
abbrev pub IsGiven : AnswerForNow → Type 0
IsGiven (answered answer) = IsAnswer answer
IsGiven point_short = Unit {0}

-- The text of no answer that is given for now begins another's.
abbrev pub GivenAreTold : Type 0
GivenAreTold = (one two : AnswerForNow) (more : List ℕ) → IsGiven one → IsGiven two → given_text one ++ more ≡ given_text two → one ≡ two
