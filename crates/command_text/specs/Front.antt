-- What a list of bytes begins with.
use Rattle.std.specs.Prelude.{ℕ, ◌+◌, ◌==◌, nat_le, if◌then◌else◌, Bool, List, length, take, drop, position, slice_index, Option, Some, None}
use Rattle.tree_model.specs.declared.command.Command.TheVariants as command
use Rattle.tree_model.specs.declared.refusal.Refusal.TheVariants.{BadName}
use Rattle.command_text.specs.declared.item.Item.{Item}
use Rattle.command_text.specs.declared.item.Item.TheVariants as item
use Rattle.line_text.specs.declared.line.Said.{Said}
use Rattle.line_text.specs.declared.line.Said.TheVariants as line
use Rattle.line_text.specs.Lines.{line_in}

-- an item with how many bytes spell it, what begins no item however it goes on, or less than an item
pub data Front : Type 0 where
  Whole : Item → ℕ → Front
  Wrong : Front
  Partial : Front

abbrev pub is_newline : ℕ → Bool
is_newline b = b == 10

-- a write of these bytes, which are dropped where the path is none
abbrev pub write_of : Option (List (List ℕ)) → ℕ → List ℕ → Item
write_of None offset bytes = item.Refused BadName
write_of (Some path) offset bytes = item.Command (command.Write path offset bytes)

-- The data of a write have one newline behind them.
abbrev pub front_of_data : Option (List (List ℕ)) → ℕ → ℕ → ℕ → List ℕ → Front
front_of_data path offset count line_count bytes =
    if nat_le (length bytes) count then Partial
    else if is_newline (slice_index bytes count) then Whole (write_of path offset (take count bytes)) (line_count + count + 1)
    else Wrong

-- a line that takes so many bytes with its newline, and the bytes behind it
abbrev pub front_of_line : Said → ℕ → List ℕ → Front
front_of_line (line.Command command) line_count bytes = Whole (item.Command command) line_count
front_of_line (line.Refused refusal) line_count bytes = Whole (item.Refused refusal) line_count
front_of_line (line.Write path offset count) line_count bytes = front_of_data path offset count line_count bytes

-- A line goes up to the first newline. It has at most 8,192 bytes without it.
abbrev pub front_up_to : List ℕ → Option ℕ → Front
front_up_to bytes None = if nat_le (length bytes) 8192 then Partial else Wrong
front_up_to bytes (Some i) = if nat_le i 8192 then front_of_line (line_in (take i bytes)) (i + 1) (drop (i + 1) bytes) else Wrong

unfoldable pub front : List ℕ → Front
front bytes = front_up_to bytes (position is_newline bytes)
