-- What a line says.
use Rattle.std.specs.Prelude.{ℕ, ◌==◌, if◌then◌else◌, Bool, true, false, List, [], ◌∷◌, codes, bytes_eq, Option, Some, None}
use Rattle.std.specs.List.{list_all, slice_split}
use Rattle.tree_model.specs.declared.command.Command.{Command}
use Rattle.tree_model.specs.declared.command.Command.TheVariants.{Mkdir, Create, Truncate, Remove, Rename, Read, List as ListOf, Stat, Layout, Space, Checkpoint, End}
use Rattle.tree_model.specs.declared.refusal.Refusal.TheVariants.{BadCommand, BadName}
use Rattle.line_text.specs.declared.verb.PathVerb.{PathVerb}
use Rattle.line_text.specs.declared.verb.PathVerb.TheVariants as verb
use Rattle.line_text.specs.declared.line.Said.{Said}
use Rattle.line_text.specs.declared.line.Said.TheVariants as line
use Rattle.line_text.specs.Numbers.{number_in, length_in}
use Rattle.line_text.specs.Paths.{path_in}

-- what is no line of a command
abbrev pub bad_command : Said
bad_command = line.Refused BadCommand

-- a path field that writes no path
abbrev pub bad_name : Said
bad_name = line.Refused BadName

-- a command on a path, which is refused where the field writes none
abbrev pub on_path : Option (List (List ℕ)) → (List (List ℕ) → Command) → Said
on_path None command = bad_name
on_path (Some path) command = line.Command (command path)

-- a line of one field
abbrev pub bare_line : List ℕ → Said
bare_line verb =
    if bytes_eq verb (codes "space") then line.Command Space
    else if bytes_eq verb (codes "checkpoint") then line.Command Checkpoint
    else if bytes_eq verb (codes "end") then line.Command End
    else bad_command

-- the verbs of lines that have a path and change nothing
abbrev pub asking_verb : List ℕ → Option PathVerb
asking_verb name =
    if bytes_eq name (codes "list") then Some verb.List
    else if bytes_eq name (codes "stat") then Some verb.Stat
    else if bytes_eq name (codes "layout") then Some verb.Layout
    else None

-- the verbs of lines that have a path and nothing else
abbrev pub path_verb : List ℕ → Option PathVerb
path_verb name =
    if bytes_eq name (codes "mkdir") then Some verb.Mkdir
    else if bytes_eq name (codes "create") then Some verb.Create
    else if bytes_eq name (codes "remove") then Some verb.Remove
    else asking_verb name

abbrev pub command_on : PathVerb → List (List ℕ) → Command
command_on verb.Mkdir path = Mkdir path
command_on verb.Create path = Create path
command_on verb.Remove path = Remove path
command_on verb.List path = ListOf path
command_on verb.Stat path = Stat path
command_on verb.Layout path = Layout path

-- a line of a verb and a path
abbrev pub path_line : Option PathVerb → List ℕ → Said
path_line None path = bad_command
path_line (Some name) path = on_path (path_in path) (λ p. command_on name p)

abbrev pub truncate_line : List ℕ → Option ℕ → Said
truncate_line path None = bad_command
truncate_line path (Some size) = on_path (path_in path) (λ p. Truncate p size)

abbrev pub rename_line : Option (List (List ℕ)) → Option (List (List ℕ)) → Said
rename_line (Some from) (Some to) = line.Command (Rename from to)
rename_line from to = bad_name

-- a line of a verb, a path and one field more
abbrev pub two_line : List ℕ → List ℕ → List ℕ → Said
two_line verb path field =
    if bytes_eq verb (codes "truncate") then truncate_line path (number_in field)
    else if bytes_eq verb (codes "rename") then rename_line (path_in path) (path_in field)
    else bad_command

abbrev pub read_line : List ℕ → Option ℕ → Option ℕ → Said
read_line path (Some offset) (Some bytes) = on_path (path_in path) (λ p. Read p offset bytes)
read_line path offset bytes = bad_command

abbrev pub write_line : List ℕ → Option ℕ → Option ℕ → Said
write_line path (Some offset) (Some bytes) = line.Write (path_in path) offset bytes
write_line path offset bytes = bad_command

-- a line of a verb, a path and two numbers
abbrev pub three_line : List ℕ → List ℕ → List ℕ → List ℕ → Said
three_line verb path offset bytes =
    if bytes_eq verb (codes "read") then read_line path (number_in offset) (length_in bytes)
    else if bytes_eq verb (codes "write") then write_line path (number_in offset) (length_in bytes)
    else bad_command

-- a line of these fields
abbrev pub line_of_fields : List (List ℕ) → Said
line_of_fields (verb ∷ []) = bare_line verb
line_of_fields (verb ∷ path ∷ []) = path_line (path_verb verb) path
line_of_fields (verb ∷ path ∷ field ∷ []) = two_line verb path field
line_of_fields (verb ∷ path ∷ offset ∷ bytes ∷ []) = three_line verb path offset bytes
line_of_fields fields = bad_command

abbrev pub has_bytes : List ℕ → Bool
has_bytes [] = false
has_bytes (byte ∷ bytes) = true

-- a field has at least one byte
unfoldable pub line_of_parts : List (List ℕ) → Said
line_of_parts fields = if list_all has_bytes fields then line_of_fields fields else bad_command

-- What a line says, without its newline. Its fields lie between single spaces.
unfoldable pub line_in : List ℕ → Said
line_in line = line_of_parts (slice_split (λ b. b == 32) line)
