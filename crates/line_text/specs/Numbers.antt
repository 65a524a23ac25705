-- Numbers as texts write them.
use Rattle.std.specs.Prelude.{ℕ, ◌^◌, ◌==◌, ◌&&◌, ◌||◌, not, nat_lt, nat_le, if◌then◌else◌, Bool, List, length, slice_index, Option, Some, None}
use Rattle.std.specs.List.{list_all}
use Rattle.std.specs.Char.{is_ascii_digit}
use Rattle.std.specs.Str.Parse.{digits_value}

-- one digit, or more of which the first isn't 0
abbrev pub has_first_digit : List ℕ → Bool
has_first_digit word = length word == 1 || (nat_lt 1 (length word) && not (slice_index word 0 == 48))

-- digits alone, with no leading zero
abbrev pub is_decimal : List ℕ → Bool
is_decimal word = list_all is_ascii_digit word && has_first_digit word

-- the number that a field writes, if it is one below 2^64
unfoldable pub number_in : List ℕ → Option ℕ
number_in word = if is_decimal word && nat_lt (digits_value 10 word) (2 ^ 64) then Some (digits_value 10 word) else None

-- the length that a field writes, if it is one of at most 65,536 bytes
abbrev pub at_most_one_payload : Option ℕ → Option ℕ
at_most_one_payload None = None
at_most_one_payload (Some bytes) = if nat_le bytes 65536 then Some bytes else None

abbrev pub length_in : List ℕ → Option ℕ
length_in word = at_most_one_payload (number_in word)
