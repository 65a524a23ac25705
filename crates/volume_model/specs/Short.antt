-- Points that lack blocks, by the formula: a rule that stands until the charges are proved to bound what a point takes.
use Rattle.std.specs.Prelude.{◌≡◌, ◌+◌, Bool, true, false, ◌&&◌, IsTrue, length, nat_lt, None}
use Rattle.tree_model.specs.declared.command.Command.{Command}
use Rattle.tree_model.specs.declared.report.Answer.{Answer}
use Rattle.volume_model.specs.Legal.{IsLegal, is_due, is_excuse, next}
use Rattle.volume_model.specs.Machine.{Machine, Rules, free_of}
use Rattle.volume_model.specs.Places.{Places, all_put, unplaced}
use Rattle.volume_model.specs.Space.{metadata_blocks}

-- the places that a point leaves, whatever their blocks
abbrev pub kept_and_dirty : Machine → Places
kept_and_dirty m = all_put (unplaced m.dirty) m.kept

-- a block for each dirty place, the metadata after the point, and 16 are together more than is free
abbrev pub is_short : Machine → Bool
is_short m = nat_lt (free_of m) (length m.dirty + metadata_blocks m.tree (kept_and_dirty m) + 16)

-- What is answered for now: an answer, or that the point which is due lacks blocks. The tree's refusals don't have the latter.
pub data AnswerForNow : Type 0 where
  answered : Answer → AnswerForNow
  point_short : AnswerForNow

-- A point that is due and short isn't taken: the answer says so, or is an excuse without a report. No other answer says so, and
-- every other is legal as ever.
abbrev pub IsLegalForNow : Rules → Machine → Command → AnswerForNow → Type 0
IsLegalForNow r m command given = by (is_due m command && is_short m) given
  where
    by : Bool → AnswerForNow → Type 0
    by true (answered answer) = (answer.report ≡ None) × IsTrue (is_excuse command answer)
    by true point_short = Unit {0}
    by false (answered answer) = IsLegal r m command answer
    by false point_short = ⊥

-- the state after it: where the point lacks blocks, nothing changes
abbrev pub next_for_now : Rules → Machine → Command → AnswerForNow → Machine
next_for_now r m command (answered answer) = next r m command answer
next_for_now r m command point_short = m
