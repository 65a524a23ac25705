-- What a command is charged, and what must be free beside that.
use Rattle.std.specs.Prelude.{ℕ, zero, ◌+◌, ◌-◌, ◌/◌, List, [], ◌∷◌, length}
use Rattle.tree_model.specs.declared.command.Command.{Command}
use Rattle.tree_model.specs.declared.command.Command.TheVariants.{Mkdir, Create, Write, Truncate, Remove, Rename, Read, List as ListOf, Stat, Layout, Space, Checkpoint, End}

-- how many places so many bytes from an offset on lie in
abbrev pub places_under : ℕ → ℕ → ℕ
places_under offset zero = 0
places_under offset len = (offset + len - 1) / 4096 + 1 - offset / 4096

-- How many blocks a command may cost. It is used for changes alone; by the formula a write of no bytes, which changes nothing, is charged 8.
abbrev pub charge : Command → ℕ
charge (Create path) = 12
charge (Mkdir path) = 12
charge (Remove path) = 12
charge (Rename from to) = 20
charge (Truncate path size) = 9
charge (Write path offset bytes) = places_under offset (length bytes) + 8
charge (Read path offset len) = 0
charge (ListOf path) = 0
charge (Stat path) = 0
charge (Layout path) = 0
charge Space = 0
charge Checkpoint = 0
charge End = 0

-- how many blocks must be free beside the charge
abbrev pub reserve : Command → ℕ
reserve (Create path) = 16
reserve (Mkdir path) = 16
reserve (Remove path) = 0
reserve (Rename from to) = 16
reserve (Truncate path size) = 16
reserve (Write path offset bytes) = 16
reserve (Read path offset len) = 0
reserve (ListOf path) = 0
reserve (Stat path) = 0
reserve (Layout path) = 0
reserve Space = 0
reserve Checkpoint = 0
reserve End = 0

-- what a refusal for want of space names
abbrev pub need : Command → ℕ
need command = charge command + reserve command

-- what the commands since the last point may cost
abbrev pub pending : List Command → ℕ
pending [] = 0
pending (command ∷ commands) = charge command + pending commands
