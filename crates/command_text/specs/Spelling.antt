-- How a command is spelled.
use Rattle.std.specs.Prelude.{ℕ, List, [], ◌∷◌, ◌++◌, length, codes, decimal}
use Rattle.std.specs.List.{flat_map}
use Rattle.tree_model.specs.declared.command.Command.{Command}
use Rattle.tree_model.specs.declared.command.Command.TheVariants.{Mkdir, Create, Write, Truncate, Remove, Rename, Read, List as ListOf, Stat, Layout, Space, Checkpoint, End}
use Rattle.reply_text.specs.Replies.{escaped}

-- a name with a slash before it, escaped as replies write it
abbrev pub name_spelling : List ℕ → List ℕ
name_spelling name = codes "/" ++ escaped name

-- a slash for the root
abbrev pub path_spelling : List (List ℕ) → List ℕ
path_spelling [] = codes "/"
path_spelling (name ∷ names) = flat_map name_spelling (name ∷ names)

-- a number behind a space
abbrev pub number_spelling : ℕ → List ℕ
number_spelling number = codes " " ++ decimal number

-- the line of a command, without its newline
abbrev pub line_spelling : Command → List ℕ
line_spelling (Mkdir path) = codes "mkdir " ++ path_spelling path
line_spelling (Create path) = codes "create " ++ path_spelling path
line_spelling (Write path offset bytes) = codes "write " ++ path_spelling path ++ number_spelling offset ++ number_spelling (length bytes)
line_spelling (Truncate path size) = codes "truncate " ++ path_spelling path ++ number_spelling size
line_spelling (Remove path) = codes "remove " ++ path_spelling path
line_spelling (Rename from to) = codes "rename " ++ path_spelling from ++ codes " " ++ path_spelling to
line_spelling (Read path offset count) = codes "read " ++ path_spelling path ++ number_spelling offset ++ number_spelling count
line_spelling (ListOf path) = codes "list " ++ path_spelling path
line_spelling (Stat path) = codes "stat " ++ path_spelling path
line_spelling (Layout path) = codes "layout " ++ path_spelling path
line_spelling Space = codes "space"
line_spelling Checkpoint = codes "checkpoint"
line_spelling End = codes "end"

-- the data of a write, with a newline behind them
abbrev pub data_spelling : Command → List ℕ
data_spelling (Write path offset bytes) = bytes ++ codes "\n"
data_spelling command = []

-- the line, its newline, and what follows it
abbrev pub spelling : Command → List ℕ
spelling command = line_spelling command ++ codes "\n" ++ data_spelling command
