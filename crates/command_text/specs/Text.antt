-- The items of a text under a budget.
use Rattle.std.specs.Prelude.{◌≡◌, ℕ, ◌-◌, nat_le, if◌then◌else◌, Bool, true, false, List, [], ◌∷◌, length, take, drop}
use Rattle.tree_model.specs.declared.command.Command.{Command}
use Rattle.tree_model.specs.declared.command.Command.TheVariants.{End}
use Rattle.command_text.specs.declared.item.Item.{Item}
use Rattle.command_text.specs.declared.item.Item.TheVariants as item
use Rattle.command_text.specs.Front.{Front, front}
use Rattle.command_text.specs.Front.Front.{Whole, Wrong, Partial}

-- the bytes that are to be read, how many of them may be taken at most, and whether the session is over
pub record Text : Type 0 where
  pub bytes : List ℕ
  pub budget : ℕ
  pub is_over : Bool

-- what comes next: an item and the text behind it, the session's end, bytes that are no text, or the end of the budget
pub data Next : Type 0 where
  Given : Item → Text → Next
  Ended : Next
  Bad : Next
  Spent : Next

abbrev pub is_end_command : Command → Bool
is_end_command End = true
is_end_command command = false

-- After `end` the session is over.
abbrev pub is_end : Item → Bool
is_end (item.Command command) = is_end_command command
is_end (item.Refused refusal) = false
is_end item.Ended = true

-- Where the input ends, the session has ended at the start of a line. Inside one the bytes are no text.
abbrev pub at_input_end : List ℕ → Next
at_input_end [] = Ended
at_input_end (byte ∷ bytes) = Bad

-- what follows from the front of the bytes that the budget allows
abbrev pub next_from : Text → Front → Next
next_from text (Whole item count) = Given item (record { bytes = drop count text.bytes; budget = text.budget - count; is_over = is_end item })
next_from text Wrong = Bad
next_from text Partial = if nat_le text.budget (length text.bytes) then Spent else at_input_end text.bytes

unfoldable pub next : Text → Next
next text = if text.is_over then Ended else next_from text (front (take text.budget text.bytes))

-- the text begins with these items, behind which comes the rest
abbrev pub Reads : Text → List Item → Text → Type 0
Reads text [] rest = text ≡ rest
Reads text (item ∷ items) rest = (behind : Text) × (next text ≡ Given item behind) × Reads behind items rest
