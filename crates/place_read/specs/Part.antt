-- A part of a file.
use Rattle.std.specs.Prelude.{ℕ, ◌+◌, min}
use Rattle.place_read.specs.declared.part.FilePart.{FilePart}

-- where it ends: at the file's end, if that comes first
abbrev pub end_of : FilePart → ℕ
end_of part = min part.size (part.offset + part.length)
