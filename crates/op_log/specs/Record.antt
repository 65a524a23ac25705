-- The record of a command, and how it is spelled.
use Rattle.std.specs.Prelude.{◌≢◌, ◌<◌, ◌≤◌, ℕ, ◌+◌, ◌-◌, ◌*◌, ◌/◌, ◌^◌, List, [], ◌∷◌, ◌++◌, length, take, drop, replicate, All}
use Rattle.byteorder.specs.Endian.{little_bytes}
use Rattle.vol_numbers.specs.Name.{IsName}
use Rattle.vol_numbers.specs.declared.block.Block.{Block}
use Rattle.tree_model.specs.Path.{Path, IsPath}
use Rattle.tree_model.specs.declared.command.Command.{Command}
use Rattle.tree_model.specs.declared.command.Command.TheVariants.{Mkdir, Create, Write, Truncate, Remove, Rename, Read, List as ListOf, Stat, Layout, Space, Checkpoint, End}

-- a command that is logged: it may change the tree, and doesn't speak of the root
abbrev pub IsLogged : Command → Type 0
IsLogged (Mkdir path) = path ≢ []
IsLogged (Create path) = path ≢ []
IsLogged (Write path offset bytes) = (path ≢ []) × (bytes ≢ [])
IsLogged (Truncate path size) = path ≢ []
IsLogged (Remove path) = path ≢ []
IsLogged (Rename from to) = (from ≢ []) × (to ≢ [])
IsLogged (Read path offset length) = ⊥
IsLogged (ListOf path) = ⊥
IsLogged (Stat path) = ⊥
IsLogged (Layout path) = ⊥
IsLogged Space = ⊥
IsLogged Checkpoint = ⊥
IsLogged End = ⊥

-- a path that a record may have: one or more names, within the limits of a path
pub record IsLogPath (path : Path) : Type 0 where
  pub some : path ≢ []
  pub limits : IsPath path
  pub names : All IsName path

-- a command that a record may have
abbrev pub HasRecord : Command → Type 0
HasRecord (Mkdir path) = IsLogPath path
HasRecord (Create path) = IsLogPath path
HasRecord (Write path offset bytes) = IsLogPath path × (offset < 2 ^ 64) × (1 ≤ length bytes) × (length bytes ≤ 65536)
HasRecord (Truncate path size) = IsLogPath path × (size < 2 ^ 64)
HasRecord (Remove path) = IsLogPath path
HasRecord (Rename from to) = IsLogPath from × IsLogPath to
HasRecord (Read path offset length) = ⊥
HasRecord (ListOf path) = ⊥
HasRecord (Stat path) = ⊥
HasRecord (Layout path) = ⊥
HasRecord Space = ⊥
HasRecord Checkpoint = ⊥
HasRecord End = ⊥

-- What a record says: its kind; the offset of a write or the size of a truncation; the bytes of its path; and the data of a write or the bytes of a second path.
pub record Fields : Type 0 where
  pub kind : ℕ
  pub number : ℕ
  pub path : List ℕ
  pub rest : List ℕ

-- each name with a slash before it
abbrev pub path_bytes : Path → List ℕ
path_bytes [] = []
path_bytes (name ∷ names) = 47 ∷ name ++ path_bytes names

-- the fields of a command that has no record
abbrev pub no_fields : Fields
no_fields = record { kind = 0; number = 0; path = []; rest = [] }

-- what the record of a command says
abbrev pub fields_of : Command → Fields
fields_of (Mkdir path) = record { kind = 1; number = 0; path = path_bytes path; rest = [] }
fields_of (Create path) = record { kind = 2; number = 0; path = path_bytes path; rest = [] }
fields_of (Write path offset bytes) = record { kind = 3; number = offset; path = path_bytes path; rest = bytes }
fields_of (Truncate path size) = record { kind = 4; number = size; path = path_bytes path; rest = [] }
fields_of (Remove path) = record { kind = 5; number = 0; path = path_bytes path; rest = [] }
fields_of (Rename from to) = record { kind = 6; number = 0; path = path_bytes from; rest = path_bytes to }
fields_of (Read path offset length) = no_fields
fields_of (ListOf path) = no_fields
fields_of (Stat path) = no_fields
fields_of (Layout path) = no_fields
fields_of Space = no_fields
fields_of Checkpoint = no_fields
fields_of End = no_fields

-- the first 24 bytes: the kind, the length of the path, the number, and the length of what comes behind the path
unfoldable pub header : ℕ → ℕ → ℕ → ℕ → List ℕ
header kind path_length number rest_length = (kind ∷ 0 ∷ 0 ∷ 0 ∷ []) ++ little_bytes 4 path_length ++ little_bytes 8 number ++ little_bytes 4 rest_length ++ replicate 4 0

-- the bytes of a record with these fields
abbrev pub text_of : Fields → List ℕ
text_of f = header f.kind (length f.path) f.number (length f.rest) ++ f.path ++ f.rest

-- the bytes of the record of a command, before the zeros at its end
abbrev pub record_text : Command → List ℕ
record_text c = text_of (fields_of c)

-- how many blocks so many bytes take
abbrev pub blocks_for : ℕ → ℕ
blocks_for bytes = (bytes + 4095) / 4096

-- how many blocks a record takes, by the lengths of its parts
abbrev pub record_blocks : Command → ℕ
record_blocks c = blocks_for (24 + length (fields_of c).path + length (fields_of c).rest)

-- the bytes, and then zeros up to the end of a block
abbrev pub filled : List ℕ → List ℕ
filled bytes = bytes ++ replicate (4096 - length bytes) 0

-- the i-th block of a text, which is filled up with zeros where the text ends
abbrev pub text_block : List ℕ → ℕ → Block
text_block text i = record { bytes = filled (take 4096 (drop (4096 * i) text)) }

-- the i-th block of the record of a command
abbrev pub record_block : Command → ℕ → Block
record_block c i = text_block (record_text c) i
