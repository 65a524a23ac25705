-- The home bits of a root, as 128 bytes.
use Rattle.std.specs.Prelude.{◌/◌, ◌%◌, ◌^◌, ℕ, List, slice_index}

-- the home of count block i: 0 or 1
abbrev pub home_bit : List ℕ → ℕ → ℕ
home_bit homes i = slice_index homes (i / 8) / 2 ^ (i % 8) % 2
