-- What a reader has in memory.
use Rattle.std.specs.Prelude.{ℕ, List}

-- the bytes that were taken and belong to no item yet, and how many bytes are in memory, with those that are done with
pub record Holding : Type 0 where
  pub bytes : List ℕ
  pub memory : ℕ

-- as many bytes as a line, the data of a write, and a newline behind each
abbrev pub most_in_memory : ℕ
most_in_memory = 73730
