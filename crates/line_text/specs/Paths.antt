-- Paths as lines write them.
use Rattle.std.specs.Prelude.{ℕ, ◌==◌, ◌&&◌, not, nat_le, if◌then◌else◌, Bool, List, [], length, take, drop, map, codes, bytes_eq, Option, Some, None}
use Rattle.std.specs.List.{list_all, slice_split}
use Rattle.percent_encoding.specs.Percent.{percent_decode}
use Rattle.tree_model.specs.Path.{path_length}

-- a byte of a name: neither 0 nor a slash
abbrev pub is_name_byte : ℕ → Bool
is_name_byte b = not (b == 0) && not (b == 47)

-- from 1 to 250 bytes of a name, and neither one dot nor two
abbrev pub is_name : List ℕ → Bool
is_name bytes = nat_le 1 (length bytes) && nat_le (length bytes) 250 && list_all is_name_byte bytes && not (bytes_eq bytes (codes ".")) && not (bytes_eq bytes (codes ".."))

-- names within the limits of a path: at most 32, and of at most 1,024 bytes, where each counts its bytes and one
abbrev pub is_path : List (List ℕ) → Bool
is_path names = list_all is_name names && nat_le (length names) 32 && nat_le (path_length names) 1024

abbrev pub path_of_names : List (List ℕ) → Option (List (List ℕ))
path_of_names names = if is_path names then Some names else None

-- names of which there are at most 32
abbrev pub few_names : List (List ℕ) → Option (List (List ℕ))
few_names names = if list_all is_name names && nat_le (length names) 32 then Some names else None

-- The names behind the first slash: the field is cut at each slash first, and then each part is decoded.
unfoldable pub names_in : List ℕ → List (List ℕ)
names_in field = map percent_decode (slice_split (λ b. b == 47) field)

-- the path that a field writes, if it is one: a slash for the root, or a slash and a name, once or more
abbrev pub path_in : List ℕ → Option (List (List ℕ))
path_in field =
    if bytes_eq field (codes "/") then Some []
    else if bytes_eq (take 1 field) (codes "/") then path_of_names (names_in (drop 1 field))
    else None
