-- What is said of an answer that is given for now.
use Rattle.std.specs.Prelude.{ℕ, Bool, true, false, List, codes, Option, None}
use Rattle.tree_model.specs.declared.refusal.Refusal.TheVariants.{DeviceFault, Damaged}
use Rattle.tree_model.specs.declared.reply.Reply.{Reply}
use Rattle.tree_model.specs.declared.reply.Reply.TheVariants.{Refused}
use Rattle.tree_model.specs.declared.report.Report.{Report}
use Rattle.reply_text.specs.Replies.{answer_text}
use Rattle.volume_model.specs.Legal.{is_done}
use Rattle.volume_model.specs.Short.{AnswerForNow, answered, point_short}

-- the report of a point, if it tells one
abbrev pub report_in : AnswerForNow → Option Report
report_in (answered answer) = answer.report
report_in point_short = None

-- it says that the command was done
abbrev pub says_done : AnswerForNow → Bool
says_done (answered answer) = is_done answer.reply
says_done point_short = false

-- the reply that the device failed
abbrev pub is_fault : Reply → Bool
is_fault (Refused DeviceFault) = true
is_fault given = false

-- it says that the device failed
abbrev pub says_fault : AnswerForNow → Bool
says_fault (answered answer) = is_fault answer.reply
says_fault point_short = false

-- the reply that a block is damaged
abbrev pub is_damaged : Reply → Bool
is_damaged (Refused (Damaged block)) = true
is_damaged given = false

-- it says that a block is damaged
abbrev pub says_damaged : AnswerForNow → Bool
says_damaged (answered answer) = is_damaged answer.reply
says_damaged point_short = false

-- the line that tells of a point that lacks blocks
abbrev pub short_text : List ℕ
short_text = codes "refused 17 PointShort\n"

-- the text of an answer
abbrev pub given_text : AnswerForNow → List ℕ
given_text (answered answer) = answer_text answer
given_text point_short = short_text
