-- The spelling of a command reads back as the command.
use Rattle.std.specs.Prelude.{◌≡◌, ◌<◌, ◌≤◌, ◌+◌, ◌^◌, ◌++◌, ℕ, List, length, false, All}
use Rattle.vol_numbers.specs.Name.{IsName}
use Rattle.tree_model.specs.Path.{Path, IsPath}
use Rattle.tree_model.specs.declared.command.Command.{Command}
use Rattle.tree_model.specs.declared.command.Command.TheVariants.{Mkdir, Create, Write, Truncate, Remove, Rename, Read, List as ListOf, Stat, Layout, Space, Checkpoint, End}
use Rattle.command_text.specs.declared.item.Item.TheVariants as item
use Rattle.command_text.specs.Spelling.{spelling}
use Rattle.reply_text.specs.Telling.{IsByte}
use Rattle.command_text.specs.Text.{next, is_end_command}
use Rattle.command_text.specs.Text.Next.{Given}

-- a path of the program: names, of bytes, within the limits of a path
pub record IsCommandPath (path : Path) : Type 0 where
  pub names : All IsName path
  pub bytes : All (λ name. All IsByte name) path
  pub limits : IsPath path

-- a command of the program
abbrev pub IsCommand : Command → Type 0
IsCommand (Mkdir path) = IsCommandPath path
IsCommand (Create path) = IsCommandPath path
IsCommand (Write path offset bytes) = IsCommandPath path × (offset < 2 ^ 64) × (length bytes ≤ 65536)
IsCommand (Truncate path size) = IsCommandPath path × (size < 2 ^ 64)
IsCommand (Remove path) = IsCommandPath path
IsCommand (Rename from to) = IsCommandPath from × IsCommandPath to
IsCommand (Read path offset count) = IsCommandPath path × (offset < 2 ^ 64) × (count ≤ 65536)
IsCommand (ListOf path) = IsCommandPath path
IsCommand (Stat path) = IsCommandPath path
IsCommand (Layout path) = IsCommandPath path
IsCommand Space = Unit {0}
IsCommand Checkpoint = Unit {0}
IsCommand End = Unit {0}

-- What follows the spelling is left, and so is the budget.
abbrev pub ReadsBack : Command → Type 0
ReadsBack command = (more : List ℕ) (budget : ℕ)
    → next (record { bytes = spelling command ++ more; budget = length (spelling command) + budget; is_over = false }) ≡ Given (item.Command command) (record { bytes = more; budget = budget; is_over = is_end_command command })
