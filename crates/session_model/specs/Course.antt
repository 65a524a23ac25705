-- The course of a session: what its items are answered in turn, and the changes that come of it. No text, source or sink is in it.
use Rattle.std.specs.Prelude.{◌++◌, ◌&&◌, not, if◌then◌else◌, List, [], ◌∷◌, Option, None}
use Rattle.std.specs.List.{flat_map}
use Rattle.tree_model.specs.declared.command.Command.{Command}
use Rattle.tree_model.specs.declared.report.Report.{Report}
use Rattle.tree_model.specs.Step.{step, is_change}
use Rattle.tree_model.specs.Tree.{Tree}
use Rattle.volume_model.specs.Done.{all_done}
use Rattle.volume_model.specs.Legal.{changes, is_full, when_answered}
use Rattle.volume_model.specs.Machine.{Machine, Rules}
use Rattle.volume_model.specs.Short.{AnswerForNow}
use Rattle.command_text.specs.declared.item.Item.{Item}
use Rattle.command_text.specs.declared.item.Item.TheVariants as item
use Rattle.session_model.specs.Given.{report_in, says_done}

-- an item, and what it is answered
pub record Exchange : Type 0 where
  pub item : Item
  pub answer : AnswerForNow

-- What came of the last item, where its answer was not told whole: an answer that is not told, or a stop of the volume. A stop is at the
-- point that was due, with the report that it would have had, or where none was due at the command itself.
pub data Last : Type 0 where
  Nothing : Last
  Untold : Exchange → Last
  Stop : Command → Option Report → Last

-- a state at the start, the items whose answers were told, and what came of one more
pub record Course : Type 0 where
  pub start : Machine
  pub told : List Exchange
  pub last : Last

-- the tree after these commands, each of which the tree does
abbrev pub tree_after : Tree → List Command → Tree
tree_after tree [] = tree
tree_after tree (command ∷ commands) = tree_after (step tree command).1 commands

-- ---- the changes that are accepted

-- the change, if it was done
abbrev pub accepted_by : Exchange → List Command
accepted_by e = done_in e.item e.answer
  where
    done_in : Item → AnswerForNow → List Command
    done_in (item.Command command) answer = if is_change command && says_done answer then command ∷ [] else []
    done_in (item.Refused refusal) answer = []
    done_in item.Ended answer = []

-- the change at which the volume stopped, if the tree does not refuse it and it has space
abbrev pub accepted_at_stop : Rules → Machine → Command → Option Report → List Command
accepted_at_stop r m command report = if changes m command && not (is_full (when_answered r m report) command) then command ∷ [] else []

-- the state after a point with this report, if there is one, and then these changes
abbrev pub after : Rules → Machine → Option Report → List Command → Machine
after r m report commands = all_done (when_answered r m report) commands

-- the state after an exchange
abbrev pub next_by : Rules → Machine → Exchange → Machine
next_by r m e = after r m (report_in e.answer) (accepted_by e)

-- the state after these exchanges
abbrev pub state_after : Rules → Machine → List Exchange → Machine
state_after r m [] = m
state_after r m (e ∷ es) = state_after r (next_by r m e) es

-- the state in which the last item is answered
abbrev pub before_last : Rules → Course → Machine
before_last r c = state_after r c.start c.told

-- the change that the last item made, or may have made before the volume stopped
abbrev pub accepted_last : Rules → Machine → Last → List Command
accepted_last r m Nothing = []
accepted_last r m (Untold e) = accepted_by e
accepted_last r m (Stop command report) = accepted_at_stop r m command report

-- the report of the last item
abbrev pub report_last : Last → Option Report
report_last Nothing = None
report_last (Untold e) = report_in e.answer
report_last (Stop command report) = report

-- the changes whose answers were told, in order
abbrev pub acknowledged : Course → List Command
acknowledged c = flat_map accepted_by c.told

-- all changes that were accepted, in order
abbrev pub accepted : Rules → Course → List Command
accepted r c = acknowledged c ++ accepted_last r (before_last r c) c.last

-- the state that it leads to
abbrev pub end_of : Rules → Course → Machine
end_of r c = after r (before_last r c) (report_last c.last) (accepted_last r (before_last r c) c.last)
