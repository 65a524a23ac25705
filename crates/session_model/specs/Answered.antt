-- Which answers a course may have, and where a volume may stop.
use Rattle.std.specs.Prelude.{◌≡◌, ◌&&◌, not, if◌then◌else◌, Bool, true, false, List, [], ◌∷◌, Option, None, is_some}
use Rattle.tree_model.specs.declared.command.Command.{Command}
use Rattle.tree_model.specs.declared.reply.Reply.TheVariants.{Refused}
use Rattle.tree_model.specs.declared.report.Report.{Report}
use Rattle.volume_model.specs.Legal.{MayReport, changes, is_due, is_full}
use Rattle.volume_model.specs.Machine.{Machine, Rules}
use Rattle.volume_model.specs.Short.{AnswerForNow, answered, IsLegalForNow, is_short}
use Rattle.command_text.specs.declared.item.Item.{Item}
use Rattle.command_text.specs.declared.item.Item.TheVariants as item
use Rattle.session_model.specs.Course.{Exchange, Last, next_by}
use Rattle.session_model.specs.Course.Last.{Nothing, Untold, Stop}
use Rattle.session_model.specs.Given.{says_damaged}

-- A line that is no command gets its refusal.
abbrev pub IsPaired : Exchange → Type 0
IsPaired e = pairs e.item e.answer
  where
    pairs : Item → AnswerForNow → Type 0
    pairs (item.Command command) answer = Unit {0}
    pairs (item.Refused refusal) answer = answer ≡ answered (record { report = None; reply = Refused refusal })
    pairs item.Ended answer = ⊥

-- each of them is paired, and so is the last
abbrev pub EachPaired : List Exchange → Last → Type 0
EachPaired [] Nothing = Unit {0}
EachPaired [] (Untold e) = IsPaired e
EachPaired [] (Stop command report) = Unit {0}
EachPaired (e ∷ es) last = IsPaired e × EachPaired es last

-- A command gets an answer that is legal for now, and never that a block is damaged.
abbrev pub IsLegalAt : Rules → Machine → Exchange → Type 0
IsLegalAt r m e = legal e.item r m e.answer
  where
    legal : Item → Rules → Machine → AnswerForNow → Type 0
    legal (item.Command command) r m answer = IsLegalForNow r m command answer × (says_damaged answer ≡ false)
    legal (item.Refused refusal) r m answer = Unit {0}
    legal item.Ended r m answer = Unit {0}

-- A command may write at a point that is due and has its blocks. Where none is due it may write as a change that the tree does not refuse
-- and that has space.
abbrev pub may_write : Machine → Command → Bool
may_write m command = if is_due m command then not (is_short m) else changes m command && not (is_full m command)

-- The volume may stop where it may write: at the point that is due, or where none is due at the command.
pub record MayStop (r : Rules) (m : Machine) (command : Command) (report : Option Report) : Type 0 where
  pub writes : may_write m command ≡ true
  pub due : is_due m command ≡ is_some report
  pub point : MayReport r m command report

-- the last item got a legal answer, or the volume may stop at it
abbrev pub IsLegalLast : Rules → Machine → Last → Type 0
IsLegalLast r m Nothing = Unit {0}
IsLegalLast r m (Untold e) = IsLegalAt r m e
IsLegalLast r m (Stop command report) = MayStop r m command report

-- each is legal in the state that those before it have left
abbrev pub EachLegal : Rules → Machine → List Exchange → Last → Type 0
EachLegal r m [] last = IsLegalLast r m last
EachLegal r m (e ∷ es) last = IsLegalAt r m e × EachLegal r (next_by r m e) es last
