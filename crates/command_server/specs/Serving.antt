-- What a session reads, and what one item is in the code.
use Rattle.std.specs.Prelude.{ℕ, true, false, [], Option, Some, None, Ok, IsTrue}
use Rattle.wire_ends.specs.Ends.{Input}
use Rattle.command_text.specs.Reading.{ReadsNext}
use Rattle.command_text.specs.Text.{Text, next}
use Rattle.command_text.specs.declared.item.Item.{Item}
use Rattle.command_server.specs.declared.serving.Served.{Served}
use Rattle.command_server.specs.declared.serving.Served.TheVariants.{GoesOn, Ends}
use Rattle.command_server.specs.declared.status.Status.{Status}

-- how many bytes a session takes at most: 2^40
abbrev pub session_budget : ℕ
session_budget = 1099511627776

-- the text that a source has, under a budget
abbrev pub text_of_source : ℕ → Input → Text
text_of_source budget source = record { bytes = source.left; budget = budget; is_over = false }

-- after the end nothing is to be read
abbrev pub no_text : Text
no_text = record { bytes = []; budget = 0; is_over = true }

-- how the session ended, if it did
abbrev pub ended_by : Served → Option Status
ended_by GoesOn = None
ended_by (Ends status) = Some status

-- what is to be read then
abbrev pub left_by : Served → Text → Text
left_by GoesOn text = text
left_by (Ends status) text = no_text

-- the item comes next in a text, with this text and this source behind it
pub record IsRead (item : Item) (text behind : Text) (from to : Input) : Type 0 where
  pub told : IsTrue from.is_told → IsTrue to.is_told
  pub comes : IsTrue from.is_told → ReadsNext (next text) behind (Ok item)
